-- A text written piece by piece into a buffer. `Written` is what holds between two pieces: the buffer starts with the text so far, and its
-- rest is as it was. The laws are one piece, one line feed, the lines, the turns of the loop of `save`, and what `save` answers. Assumes nothing.
use Prim.Native.Nat.{ℕ, zero, suc, ◌+◌, ◌*◌, ◌≤◌, ◌<◌}
use native.Mathlib.Numerals.{add-one}
use native.Mathlib.Omega.{arith}
use mathlib.Core.Path.{◌≡◌, refl, sym, ap, ap₂, subst, subst₂, ◌∙◌}
use mathlib.Core.Bool.{true, false}
use mathlib.Core.List.{List, [], ◌∷◌, ◌++◌, append_assoc, append-nil}
use lib.ListN.{length, get_or, set, take, drop, length-append, length-drop, take-append-drop}
use lib.Seq.{take_at, drop-append-add, drop-drop, drop-cons, set_at, append_snoc, length-take-le}
use borrow.Author.Tests.{le-leb, lt-leb}
use Rattle.std.specs.Int.{w16, to_le_bytes}
use Rattle.refusal.specs.Outcome.{Outcome, given, refused}
use Rattle.refusal.specs.Buffer.{Writes}
use Rattle.refusal.specs.declared.Refusal.TheVariants.{BadState, ShortBuffer}
use Rattle.std.specs.Prelude.{Ok, Err}
use Rattle.hexadecimal.specs.Digits.{text_of}
use Rattle.octets.specs.Bytes.{le_bytes}
use Rattle.octets.specs.Buffer.{placed}
use Rattle.octets.proofs.Numbers.{le_bytes_length}
use Rattle.octets.proofs.Buffers.{placed_room}
use Rattle.hexadecimal.specs.Buffer.{encoded_to}
use Rattle.hexadecimal.proofs.Texts.{length_text, text_append}
use Rattle.key_index.specs.View.{key_limit, View, view_of, chunks}
use Rattle.key_index.specs.Good.{good}
use Rattle.key_index.specs.Keys.{Each}
use Rattle.key_index.proofs.Chunks.{chunks_length, chunks_more, get_or_chunks}
use Rattle.snapshot.specs.Text.{kind11, line_of, head_frame, key_lines, form_of, snapshot_of}
use Rattle.snapshot.specs.Calls.{save_of}
use Rattle.snapshot.proofs.RoundTrip.{sized_length, head_size_lem}

-- the buffer `out`, which was `d`, starts with the text `a`, up to `at`
pub record Written (d a : List ℕ) (at : ℕ) (out : List ℕ) : Type 0 where
  pub ends : length a ≡ at
  pub is : out ≡ a ++ drop at d

-- before the first piece
pub begin : (d : List ℕ) (at : ℕ) → at ≤ length d → Written d (take at d) at d
begin d at h = record { ends = length-take-le at d h; is = sym (take-append-drop at d) }

module _ {d a : List ℕ} {at : ℕ} {out : List ℕ} (w : Written d a at out) where
  -- the buffer keeps its length
  pub same_long : at ≤ length d → length out ≡ length d
  same_long h = let e = w.ends in ap length w.is ∙ omega (arith, length-append a (drop at d), length-drop at d)

  -- one piece more
  pub piece : (t : List ℕ) (n : ℕ) → length t ≡ n → at + n ≤ length d → {after : List ℕ} → after ≡ placed out at t
      → Written d (a ++ t) (at + n) after
  piece t n k h p =
      let e = w.ends in
      let long = same_long (omega arith) in
      let past : at + length t ≡ length a + n = omega arith in
      record {
        ends = omega (arith, length-append a t);
        is = p
            ∙ placed_room out at t (omega arith)
            ∙ ap₂ (λ (x y : List ℕ). x ++ t ++ y) (ap (take at) w.is ∙ take_at a (drop at d) at e)
            (ap (λ (j : ℕ). drop j out) past
            ∙ ap (drop (length a + n)) w.is
            ∙ drop-append-add a (drop at d) n
            ∙ drop-drop n at d);
      }

  -- a line feed more
  pub feed : at < length d → Written d (a ++ (10 ∷ [])) (at + 1) (set out at 10)
  feed h =
      record {
        ends = let e = w.ends in omega (arith, length-append a (10 ∷ []));
        is = ap (λ (l : List ℕ). set l at 10) (w.is ∙ ap (λ (l : List ℕ). a ++ l) (drop-cons d at 0 h))
            ∙ set_at a (get_or d at 0) (drop (suc at) d) 10 at w.ends
            ∙ sym (append_snoc a 10 (drop (suc at) d))
            ∙ ap (λ (k : ℕ). a ++ (10 ∷ []) ++ drop k d) (sym (add-one at));
      }

-- a whole line was written from `at` on
pub record Placed (d : List ℕ) (at : ℕ) (line out : List ℕ) : Type 0 where
  pub is : out ≡ placed d at line
  pub long : length out ≡ length d

whole : {d a : List ℕ} {at : ℕ} (line : List ℕ) {n : ℕ} {out : List ℕ} → Written d a (at + n) out → a ≡ take at d ++ line → length line ≡ n
    → at + n ≤ length d → Placed d at line out
whole {d} {a} {at} line w e k h =
    let same : at + length line ≤ length d = omega arith in
    record {
      is = w.is ∙ ap₂ (λ (x : List ℕ) (j : ℕ). x ++ drop (at + j) d) e (sym k) ∙ sym (placed_room d at line same);
      long = same_long w h;
    }

-- the text of a frame's piece
text_piece : {d a : List ℕ} {at : ℕ} {out : List ℕ} → Written d a at out → (bytes : List ℕ) (n : ℕ) → length bytes ≡ n → at + 2 * n ≤ length d
    → {after : List ℕ} → after ≡ encoded_to bytes out at → Written d (a ++ text_of bytes) (at + 2 * n) after
text_piece w bytes n k h p = piece w (text_of bytes) (2 * n) (omega (arith, length_text bytes)) h p

header_length : (node cap : List ℕ) (count : ℕ) → length node ≡ 32 → length cap ≡ 32 → length (line_of (head_frame kind11 node cap count)) ≡ 135
header_length node cap count n c =
    let f : List ℕ = head_frame kind11 node cap count in
    omega (arith, head_size_lem kind11 node cap count n c, length-append (text_of f) (10 ∷ []), length_text f)

key_length : (key : List ℕ) → length key ≡ 9 → length (line_of (2 ∷ key)) ≡ 21
key_length key h = omega (arith, length-append (text_of (2 ∷ key)) (10 ∷ []), length_text (2 ∷ key))

-- a number of two bytes, lightest first
two_bytes : (count : ℕ) → to_le_bytes w16 count ≡ le_bytes 2 count
unfolding le_bytes
two_bytes count = refl

-- the pieces of the first line
pub header_placed : (node cap : List ℕ) (count : ℕ) → length node ≡ 32 → length cap ≡ 32 → count < 65536
    → (d : List ℕ) {o1 o2 o3 held o4 : List ℕ} → 135 ≤ length d → o1 ≡ encoded_to (0x11 ∷ []) d 0 → o2 ≡ encoded_to node o1 2 → o3 ≡ encoded_to cap o2 66
    → held ≡ to_le_bytes w16 count → o4 ≡ encoded_to held o3 130 → Placed d 0 (line_of (head_frame kind11 node cap count)) (set o4 134 10)
header_placed node cap count n c few d {o1} {o2} {o3} h e1 e2 e3 two e4 =
    let number = le_bytes 2 count in
    let w1 = text_piece (begin d 0 (omega arith)) (0x11 ∷ []) 1 refl (omega arith) e1 in
    let w2 = text_piece w1 node 32 n (omega arith) e2 in
    let w3 = text_piece w2 cap 32 c (omega arith) e3 in
    let w4 = text_piece w3 number 2 (le_bytes_length 2 count) (omega arith) (e4 ∙ ap (λ (t : List ℕ). encoded_to t o3 130) (two ∙ two_bytes count)) in
    whole (line_of (head_frame kind11 node cap count)) (feed w4 (omega arith))
    (rw (text_append (node ++ cap) number, text_append node cap)) (header_length node cap count n c) h

-- the pieces of a key's line
pub key_placed : (key : List ℕ) → length key ≡ 9 → (d : List ℕ) (at : ℕ) {o1 o2 : List ℕ} → at + 21 ≤ length d → o1 ≡ encoded_to (2 ∷ []) d at
    → o2 ≡ encoded_to key o1 (at + 2) → Placed d at (line_of (2 ∷ key)) (set o2 (at + 20) 10)
key_placed key n d at {o1} {o2} h e1 e2 =
    let w1 = text_piece (begin d at (omega arith)) (2 ∷ []) 1 refl (omega arith) e1 in
    let w2 = text_piece w1 key 9 n (omega arith) e2 in
    let there : at + 2 + 18 ≡ at + 20 = omega arith in
    let end : at + 2 + 18 + 1 ≡ at + 21 = omega arith in
    let w3 = feed w2 (omega arith) in
    whole (line_of (2 ∷ key))
    (subst₂ (Written d (take at d ++ text_of (2 ∷ []) ++ text_of key ++ (10 ∷ []))) end (ap (λ (k : ℕ). set o2 k 10) there) w3)
    (simp append_assoc) (key_length key n) h

-- the text up to the key at place i
abbrev pub text_to : List ℕ → List ℕ → List ℕ → ℕ → ℕ → List ℕ
text_to node cap keys count i = line_of (head_frame kind11 node cap count) ++ key_lines (chunks i keys)

-- what holds at the loop's head in `save`
pub record Saving (node cap keys : List ℕ) (count : ℕ) (d : List ℕ) (i : ℕ) (out : List ℕ) : Type 0 where
  pub inside : i ≤ count
  pub few : count ≤ key_limit
  pub long : 9 * count ≤ length keys
  pub fits : 135 + 21 * count ≤ length d
  pub text : Written d (text_to node cap keys count i) (135 + 21 * i) out

lines_append : (ks : List (List ℕ)) (k : List ℕ) → key_lines (ks ++ (k ∷ [])) ≡ key_lines ks ++ line_of (2 ∷ k)
unfolding key_lines
lines_append [] k = append-nil (line_of (2 ∷ k))
lines_append (j ∷ ks) k =
    ap (λ (l : List ℕ). line_of (2 ∷ j) ++ l) (lines_append ks k) ∙ sym (append_assoc (line_of (2 ∷ j)) (key_lines ks) (line_of (2 ∷ k)))

-- keys of an array have nine bytes each
nines : (m : ℕ) (b : List ℕ) → 9 * m ≤ length b → Each (λ (k : List ℕ). length k ≡ 9) (chunks m b)
unfolding chunks
nines zero b l = tt
nines (suc m) b l = (length-take-le 9 b (omega arith), nines m (drop 9 b) (omega (arith, length-drop 9 b)))

-- the length of the whole text
pub saved_length : (node cap keys : List ℕ) (count : ℕ) → length node ≡ 32 → length cap ≡ 32 → 9 * count ≤ length keys
    → length (snapshot_of (view_of node cap keys count)) ≡ 135 + 21 * count
saved_length node cap keys count n c h =
    sized_length kind11 (view_of node cap keys count) n c (nines count keys h)
    ∙ ap (λ (k : ℕ). 135 + 21 * k) (chunks_length count keys)

-- after a key's line
pub saving_next : (node cap keys : List ℕ) (count : ℕ) (d : List ℕ) (i : ℕ) (out : List ℕ) → Saving node cap keys count d i out
    → i < count
    → (key : List ℕ) → key ≡ get_or (chunks count keys) i [] → (after : List ℕ) → after ≡ placed out (135 + 21 * i) (line_of (2 ∷ key))
    → Saving node cap keys count d (i + 1) after
saving_next node cap keys count d i out s h key read after p =
    let long = s.long in
    let is : key ≡ take 9 (drop (9 * i) keys) = read ∙ get_or_chunks count i keys h in
    let nine : length key ≡ 9 = ap length is ∙ length-take-le 9 (drop (9 * i) keys) (omega (arith, length-drop (9 * i) keys)) in
    let room = s.fits in
    let w = piece s.text (line_of (2 ∷ key)) 21 (key_length key nine) (omega arith) p in
    let all : text_to node cap keys count i ++ line_of (2 ∷ key) ≡ text_to node cap keys count (i + 1) =
    append_assoc (line_of (head_frame kind11 node cap count)) (key_lines (chunks i keys)) (line_of (2 ∷ key))
    ∙ ap (λ (l : List ℕ). line_of (head_frame kind11 node cap count) ++ l)
    (sym (lines_append (chunks i keys) key)
    ∙ ap (λ (k : List ℕ). key_lines (chunks i keys ++ (k ∷ []))) is
    ∙ sym (ap key_lines (ap (λ (n : ℕ). chunks n keys) (add-one i) ∙ chunks_more i keys))) in
    let end : 135 + 21 * i + 21 ≡ 135 + 21 * (i + 1) = omega arith in
    record {
      inside = omega arith;
      few = s.few;
      long = s.long;
      fits = s.fits;
      text = record {
        ends = ap length (sym all) ∙ w.ends ∙ end;
        is = w.is ∙ ap₂ (λ (l : List ℕ) (k : ℕ). l ++ drop k d) all end;
      };
    }

-- the buffer `first`, with its first line, before the loop
module _ (node cap keys : List ℕ) (count : ℕ) (d first : List ℕ) (n : length node ≡ 32) (c : length cap ≡ 32) (h : 135 + 21 * count ≤ length d)
    (p : first ≡ placed d 0 (line_of (head_frame kind11 node cap count))) where
  begun : Written d (line_of (head_frame kind11 node cap count)) 135 first
  begun = piece (begin d 0 (omega arith)) (line_of (head_frame kind11 node cap count)) 135 (header_length node cap count n c) (omega arith) p

  -- its rest is as it was
  rest_same : (k : ℕ) → drop (135 + k) first ≡ drop (135 + k) d
  rest_same k =
      let l = line_of (head_frame kind11 node cap count) in
      let past : 135 + k ≡ length l + k = let e = begun.ends in omega arith in
      ap (λ (j : ℕ). drop j first) past
      ∙ ap (drop (length l + k)) begun.is
      ∙ drop-append-add l (drop 135 d) k
      ∙ drop-drop k 135 d

  pub saving_start : count ≤ key_limit → 9 * count ≤ length keys → Saving node cap keys count first 0 first
  unfolding chunks key_lines
  saving_start few long =
      let l = line_of (head_frame kind11 node cap count) in
      record {
        inside = omega arith;
        few = few;
        long = long;
        fits = let e = same_long begun (omega arith) in omega arith;
        text = record {
          ends = ap length (append-nil l) ∙ begun.ends;
          is = begun.is ∙ ap₂ (λ (x y : List ℕ). x ++ y) (sym (append-nil l)) (sym (rest_same 0));
        };
      }

  -- after the last line the buffer starts with the whole text
  pub saving_end : (i : ℕ) (out : List ℕ) → Saving node cap keys count first i out → count ≤ i
      → out ≡ snapshot_of (view_of node cap keys count) ++ drop (135 + 21 * count) d
  unfolding form_of
  saving_end i out s k =
      let all : i ≡ count = let l = s.inside in omega arith in
      s.text.is
      ∙ ap (λ (m : ℕ). text_to node cap keys count m ++ drop (135 + 21 * m) first) all
      ∙ ap₂ (λ (m : ℕ) (r : List ℕ). line_of (head_frame kind11 node cap m) ++ key_lines (chunks count keys) ++ r)
      (sym (chunks_length count keys)) (rest_same (21 * count))

-- what `save` answers
module _ (limit : ℕ) (v : View) (d : List ℕ) where
  -- a bad index
  pub save_bad : good limit v ≡ false → Writes (save_of limit v (length d)) (Err BadState) d d
  save_bad g =
      let e : save_of limit v (length d) ≡ refused 0 = rw g in
      subst (λ (o : Outcome (List ℕ)). Writes o (Err BadState) d d) (sym e) (record { answered = refl; buffer = refl })

  -- a short buffer
  pub save_short : good limit v ≡ true → length d < length (snapshot_of v) → Writes (save_of limit v (length d)) (Err ShortBuffer) d d
  save_short g h =
      let e : save_of limit v (length d) ≡ refused 13 = rw (g, lt-leb (length (snapshot_of v)) (length d) h) in
      subst (λ (o : Outcome (List ℕ)). Writes o (Err ShortBuffer) d d) (sym e)
      (record { answered = refl; buffer = refl })

  -- the text
  pub save_written : good limit v ≡ true → (n : ℕ) → length (snapshot_of v) ≡ n → n ≤ length d → (out : List ℕ) → out ≡ snapshot_of v ++ drop n d
      → Writes (save_of limit v (length d)) (Ok n) d out
  save_written g n k h out e =
      let fits : length (snapshot_of v) ≤ length d = omega arith in
      let o : save_of limit v (length d) ≡ given (snapshot_of v) = rw (g, le-leb (length (snapshot_of v)) (length d) fits) in
      subst (λ (x : Outcome (List ℕ)). Writes x (Ok n) d out) (sym o)
      (record { answered = ap given (sym k); buffer = e ∙ ap (λ (m : ℕ). snapshot_of v ++ drop m d) (sym k) })
