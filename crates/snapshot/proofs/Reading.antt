-- What the reading of one line answers: a line's frame (`read_frame`), the first line (`header_as`, `header_in`), a key's line (`key_line`).
-- Each goes by whether the text starts with a frame's line. Assumes nothing.
use Prim.Native.Nat.{ℕ, ◌+◌, ◌-◌, ◌*◌, ◌≤◌, ◌<◌}
use native.Mathlib.Omega.{arith}
use mathlib.Core.Path.{◌≡◌, refl, sym, ap, ap₂, ◌∙◌}
use mathlib.Core.Bool.{Bool, true, false, cond, ◌&&◌, and-eq-true_iff, and-false}
use mathlib.Core.List.{List, ◌++◌, append-nil}
use Rattle.std.specs.Prelude.{Option, Some, None, Result, Ok, Err}
use lib.Dec.{eqb, leb}
use lib.ListN.{length, get_or, take, drop, length-drop, drop_of_length-le, get_or-eq_default}
use lib.Seq.{length-take-le, get_or-drop, take_all}
use borrow.Author.Tests.{le-leb, lt-leb, eq-eqb, ne_eqb}
use Rattle.octets.specs.Bytes.{be, le}
use Rattle.octets.specs.Parts.{bytes_at}
use Rattle.octets.proofs.Parts.{bytes_at_part, bytes_at_rest, le_part}
use Rattle.hexadecimal.specs.Digits.{bytes_of, all_digits}
use Rattle.hexadecimal.specs.Buffer.{decoded_to, decoded_of, filled, filled_of}
use Rattle.hexadecimal.specs.declared.DecodeError.{DecodeError}
use Rattle.hexadecimal.specs.declared.DecodeError.TheVariants.{NoRoom}
use Rattle.hexadecimal.proofs.Texts.{bytes_of_pairs, length_of_bytes, digits_of_bytes}
use Rattle.distance.specs.Distance.{xor_of}
use Rattle.content_key.specs.Key.{key_id}
use Rattle.snapshot.specs.Text.{Kind, kind01, kind11, head_size}
use Rattle.snapshot.specs.Load.{is_frame, frame_of, key_in, is_key_line, is_header, kind_in}
use Rattle.snapshot.specs.Parts.{frame_in, lowest, key_passes, header_said, header_from, key_line_from}
use Rattle.snapshot.specs.declared.loading.Header.{Header}
use Rattle.snapshot.proofs.Frames.{frame_is}

-- a text that does not start with a frame's line
no_frame : (n : ℕ) (text : List ℕ) → is_frame n text ≡ false → None ≡ frame_in n text
unfolding frame_in
no_frame n text e = sym (ap (λ (b : Bool). cond b (Some (frame_of n text)) None) e)

-- another character in the line feed's place
no_feed : (n : ℕ) (text : List ℕ) → (get_or text (2 * n) 0 ≡ 10 → ⊥) → is_frame n text ≡ false
unfolding is_frame
no_feed n text h = ap (λ (b : Bool). b && all_digits (take (2 * n) text)) (ne_eqb (get_or text (2 * n) 0) 10 h)

-- the text ends within the line
pub short_line : (text : List ℕ) (at n : ℕ) → length text - at ≤ 2 * n → None ≡ frame_in n (drop at text)
short_line text at n h =
    let past : get_or (drop at text) (2 * n) 0 ≡ 0 = get_or-eq_default (drop at text) 0 (omega (arith, length-drop at text)) in
    no_frame n (drop at text) (no_feed n (drop at text) (λ e. omega arith))

-- the line has no line feed at its end
pub unended_line : (text : List ℕ) (at n : ℕ) → (get_or text (at + 2 * n) 0 ≡ 10 → ⊥) → None ≡ frame_in n (drop at text)
unended_line text at n h = no_frame n (drop at text) (no_feed n (drop at text) (λ e. h (sym (get_or-drop at text (2 * n) 0) ∙ e)))

-- the line ends with a line feed, and its digits were decoded over a frame of n bytes
module _ (text frame : List ℕ) (n : ℕ) (size : length frame ≡ n) (inside : 2 * n ≤ length text) (feed : get_or text (2 * n) 0 ≡ 10) where
  long : length (take (2 * n) text) ≡ 2 * n
  long = length-take-le (2 * n) text inside

  -- bytes were read
  some_bytes : (bs : List ℕ) → bytes_of (take (2 * n) text) ≡ Some bs
      → (Some (filled_of (take (2 * n) text) frame) ≡ frame_in n text) × (decoded_of (take (2 * n) text) frame ≡ Ok (length bs))
  unfolding is_frame frame_in
  some_bytes bs e =
      let s = take (2 * n) text in
      let two = length_of_bytes s bs e in
      let fits : leb (length bs) (length frame) ≡ true = le-leb (length bs) (length frame) (omega (arith, long)) in
      let is : is_frame n text ≡ true =
      (and-eq-true_iff (eqb (get_or text (2 * n) 0) 10) (all_digits s)).1 (eq-eqb _ _ feed, digits_of_bytes s bs e) in (
        ap (λ (o : Option (List ℕ)). Some (filled o frame)) e
            ∙ ap (λ (b : Bool). Some (cond b (bs ++ drop (length bs) frame) frame)) fits
            ∙ ap (λ (l : List ℕ). Some (bs ++ l)) (drop_of_length-le frame {i = length bs} (omega (arith, long)))
            ∙ ap Some (append-nil bs)
            ∙ sym (ap (λ (b : Bool). cond b (Some (frame_of n text)) None) is ∙ ap Some (frame_is n text e)),
        ap (λ (o : Option (List ℕ)). decoded_to o (length frame)) e ∙ ap (λ (b : Bool). cond b (Ok (length bs)) (Err NoRoom)) fits,
      )

  -- none were
  no_bytes : bytes_of (take (2 * n) text) ≡ None → is_frame n text ≡ false
  unfolding is_frame
  no_bytes e = go (all_digits (take (2 * n) text)) refl
    where
      go : (t : Bool) → all_digits (take (2 * n) text) ≡ t → (eqb (get_or text (2 * n) 0) 10 && t) ≡ false
      go true q =
          let p = bytes_of_pairs (take (2 * n) text) q (omega (arith, long)) in
          let z : ◌≡◌ {A = ℕ} 0 1 = cc in
          absurd (omega arith)
      go false q = and-false (eqb (get_or text (2 * n) 0) 10)

  -- what the decoder answered and left
  module _ (k : ℕ) (all : k ≡ 2 * n) (answer : Result ℕ DecodeError) (after : List ℕ)
      (answered : answer ≡ decoded_of (take k text) frame) (left : after ≡ filled_of (take k text) frame) where
    said : answer ≡ decoded_of (take (2 * n) text) frame
    said = answered ∙ ap (λ (j : ℕ). decoded_of (take j text) frame) all

    -- bytes
    pub frame_read : {m : ℕ} → answer ≡ Ok m → Some after ≡ frame_in n text
    frame_read {m} e = go (bytes_of (take (2 * n) text)) refl
      where
        go : (o : Option (List ℕ)) → bytes_of (take (2 * n) text) ≡ o → Some after ≡ frame_in n text
        go (Some bs) q = ap Some (left ∙ ap (λ (j : ℕ). filled_of (take j text) frame) all) ∙ (some_bytes bs q).0
        go None q =
            let d = said ∙ ap (λ (x : Option (List ℕ)). decoded_to x (length frame)) q in
            let z : ◌≡◌ {A = ℕ} 0 1 = cc in
            absurd (omega arith)

    -- no digits: there is room for the bytes
    pub frame_not : {why : DecodeError} → answer ≡ Err why → None ≡ frame_in n text
    frame_not {why} e = go (bytes_of (take (2 * n) text)) refl
      where
        go : (o : Option (List ℕ)) → bytes_of (take (2 * n) text) ≡ o → None ≡ frame_in n text
        go (Some bs) q =
            let d = said ∙ (some_bytes bs q).1 in
            let z : ◌≡◌ {A = ℕ} 0 1 = cc in
            absurd (omega arith)
        go None q = no_frame n text (no_bytes q)

-- the frame that was read
record HasFrame (n : ℕ) (text frame : List ℕ) : Type 0 where
  is : is_frame n text ≡ true
  frame_is : frame ≡ frame_of n text

has_frame : (n : ℕ) (text frame : List ℕ) → frame_in n text ≡ Some frame → HasFrame n text frame
unfolding frame_in
has_frame n text frame e = go (is_frame n text) refl e
  where
    go : (b : Bool) → is_frame n text ≡ b → cond b (Some (frame_of n text)) None ≡ Some frame → HasFrame n text frame
    go true q f = let same : frame_of n text ≡ frame = cc in record { is = q; frame_is = sym same }
    go false q f = let z : ◌≡◌ {A = ℕ} 0 1 = cc in absurd (omega arith)

has_none : (n : ℕ) (text : List ℕ) → frame_in n text ≡ None → is_frame n text ≡ false
unfolding frame_in
has_none n text e = go (is_frame n text) refl e
  where
    go : (b : Bool) → is_frame n text ≡ b → cond b (Some (frame_of n text)) None ≡ None → is_frame n text ≡ false
    go true q f = let z : ◌≡◌ {A = ℕ} 0 1 = cc in absurd (omega arith)
    go false q f = q

-- the number at the end of a first frame, which has at most four bytes
count_of : (frame four : List ℕ) (count : ℕ) → length frame ≤ 69 → four ≡ bytes_at 4 65 frame → count ≡ le four → count ≡ le (drop 65 frame)
count_of frame four count h f c =
    c ∙ ap le f ∙ le_part 4 65 frame ∙ ap le (take_all 4 (drop 65 frame) (omega (arith, length-drop 65 frame)))

-- the first line of a kind
module _ (kind : Kind) (text : List ℕ) (n : ℕ) (size : head_size kind ≡ n) where
  -- no frame
  pub header_none : frame_in n text ≡ None → None ≡ header_from kind text
  unfolding header_from is_header
  header_none e = rw (size, has_none n text e)

  module _ (frame : List ℕ) (read : frame_in n text ≡ Some frame) where
    -- another mark
    pub header_mark : (get_or frame 0 0 ≡ kind.mark → ⊥) → None ≡ header_from kind text
    unfolding header_from is_header
    header_mark h =
        let f = has_frame n text frame read in
        rw (size, f.is, sym f.frame_is, ne_eqb (get_or frame 0 0) kind.mark h)

    module _ (mark : get_or frame 0 0 ≡ kind.mark) (four : List ℕ) (count : ℕ) (long : length frame ≡ n) (most : n ≤ 69)
        (at : four ≡ bytes_at 4 65 frame) (is : count ≡ le four) where
      counted : count ≡ le (drop 65 frame)
      counted = count_of frame four count (omega arith) at is

      -- too many keys
      pub header_many : kind.limit < count → None ≡ header_from kind text
      unfolding header_from is_header
      header_many h =
          let f = has_frame n text frame read in
          let c = counted in
          rw (size, f.is, sym f.frame_is, eq-eqb (get_or frame 0 0) kind.mark mark, lt-leb (le (drop 65 frame)) kind.limit (omega arith))

      -- a first line
      pub header_whole : count ≤ kind.limit → 65 ≤ n → (node cap : List ℕ) → node ≡ bytes_at 32 1 frame → cap ≡ bytes_at 32 33 frame → (all : ℕ) → all ≡ 2 * n + 1
          → Some (record { node = node; cap = cap; count = count; size = all }) ≡ header_from kind text
      unfolding header_from is_header
      header_whole h least node cap a b all l =
          let f = has_frame n text frame read in
          let c = counted in
          rw
          (size, f.is, sym f.frame_is, eq-eqb (get_or frame 0 0) kind.mark mark, le-leb (le (drop 65 frame)) kind.limit (omega arith))
          (ap Some (cc (a ∙ bytes_at_part 32 1 frame (omega arith), b ∙ bytes_at_part 32 33 frame (omega arith), c, l)))

-- the first line of a text: of kind 11 where it starts with one,
pub kind_newer : (text : List ℕ) {h : Header} → header_from kind11 text ≡ Some h → Some h ≡ header_from (kind_in text) text
unfolding kind_in header_from
kind_newer text {h} e = go (is_header kind11 text) refl e
  where
    go : (b : Bool) → is_header kind11 text ≡ b → cond b (Some (header_said kind11 text)) None ≡ Some h
        → Some h ≡ cond (is_header (cond b kind11 kind01) text) (Some (header_said (cond b kind11 kind01) text)) None
    go true q f = sym (ap (λ (b : Bool). cond b (Some (header_said kind11 text)) None) q ∙ f)
    go false q f = let z : ◌≡◌ {A = ℕ} 0 1 = cc in absurd (omega arith)

-- else of kind 01
pub kind_older : (text : List ℕ) → header_from kind11 text ≡ None → header_from kind01 text ≡ header_from (kind_in text) text
unfolding kind_in header_from
kind_older text e = go (is_header kind11 text) refl e
  where
    go : (b : Bool) → is_header kind11 text ≡ b → cond b (Some (header_said kind11 text)) None ≡ None
        → header_from kind01 text ≡ header_from (cond b kind11 kind01) text
    go true q f = let z : ◌≡◌ {A = ℕ} 0 1 = cc in absurd (omega arith)
    go false q f = refl

-- a key's line
module _ (node cap : List ℕ) (last : Option (List ℕ)) (text : List ℕ) where
  -- no frame
  pub key_none : frame_in 10 text ≡ None → None ≡ key_line_from node cap last text
  unfolding key_line_from is_key_line
  key_none e = rw (has_none 10 text e)

  module _ (frame : List ℕ) (read : frame_in 10 text ≡ Some frame) where
    -- another first byte
    pub key_mark : (get_or frame 0 0 ≡ 2 → ⊥) → None ≡ key_line_from node cap last text
    unfolding key_line_from is_key_line
    key_mark h =
        let f = has_frame 10 text frame read in
        rw (f.is, sym f.frame_is, ne_eqb (get_or frame 0 0) 2 h)

    module _ (mark : get_or frame 0 0 ≡ 2) (long : length frame ≡ 10) (key far : List ℕ) (at : key ≡ bytes_at 9 1 frame)
        (is : far ≡ xor_of node (key_id key)) where
      key_is : key ≡ key_in text
      key_is = at ∙ bytes_at_rest 9 1 frame (omega arith) ∙ ap (drop 1) (has_frame 10 text frame read).frame_is

      far_is : far ≡ xor_of node (key_id (key_in text))
      far_is = is ∙ ap (λ (k : List ℕ). xor_of node (key_id k)) key_is

      tested : is_key_line node (be cap) (lowest last) text ≡ key_passes key far last cap
      unfolding is_key_line
      tested =
          let f = has_frame 10 text frame read in
          rw (f.is, sym f.frame_is, eq-eqb (get_or frame 0 0) 2 mark)
          (ap₂ (λ (k d : List ℕ). key_passes k d last cap) (ap (drop 1) f.frame_is ∙ sym key_is) (ap (λ (k : List ℕ). xor_of node (key_id k)) (ap (drop 1) f.frame_is ∙ sym key_is) ∙ sym is))

      -- it breaks a rule
      pub key_fails : key_passes key far last cap ≡ false → None ≡ key_line_from node cap last text
      unfolding key_line_from
      key_fails e = rw (tested, e)

      -- a key's line
      pub key_whole : key_passes key far last cap ≡ true → Some (record { key = key; far = far }) ≡ key_line_from node cap last text
      unfolding key_line_from
      key_whole e = rw (tested, e) (ap Some (cc (key_is, far_is)))
