-- The two kinds together. A text is accepted exactly when it is a saved form, in either kind, of a view that keeps the rules of that kind; one
-- of kind 11 writes back the same, one of kind 01 comes back as kind 11 with the same view; and a box of before refuses kind 11. Assumes nothing.
use Prim.Native.Nat.{ℕ, ◌/◌, ◌≤◌}
use native.Mathlib.Omega.{arith}
use mathlib.Core.Path.{◌≡◌, refl, sym, ap, subst, ◌∙◌}
use mathlib.Core.Bool.{Bool, true, false, cond, ◌&&◌, true≢false}
use mathlib.Core.Logic.{◌↔◌}
use mathlib.Core.List.{List, ◌∷◌, ◌++◌}
use lib.Dec.{eqb, leb, lit<}
use lib.ListN.{length, get_or, take, drop, drop_of_length-le}
use lib.Seq.{drop-cons}
use Rattle.octets.specs.Bytes.{le}
use Rattle.hexadecimal.specs.Digits.{digit_of}
use Rattle.key_index.specs.View.{key_limit, View}
use Rattle.key_index.specs.Good.{good}
use Rattle.key_index.proofs.Rules.{good_facts, facts_good}
use Rattle.snapshot.specs.Text.{Kind, kind01, kind11, line_of, head_size, form_of, snapshot_of}
use Rattle.snapshot.specs.Load.{Loading, bad_line, loaded, is_frame, frame_of, after_frame, keys_of, node_in, cap_in, count_in, is_header, read_as, kind_in, load_of}
use Rattle.snapshot.specs.Shape.{Shaped, Saved, as11, as01}
use Rattle.snapshot.specs.Before.{is_header_before, load_before}
use Rattle.snapshot.proofs.Frames.{framed}
use Rattle.snapshot.proofs.RoundTrip.{Sound, header_facts, read_header, read_form, form_length, form_header, form_iff}

pub sound_01 : Sound kind01
sound_01 = record { marked = lit< tt; roomy = lit< tt }

pub sound_11 : Sound kind11
sound_11 = record { marked = lit< tt; roomy = lit< tt }

-- a kind's limit may grow: an index that keeps the rules keeps them at a larger limit
pub good_more : (small large : ℕ) (v : View) → small ≤ large → good small v ≡ true → good large v ≡ true
good_more small large v h g =
    let f = good_facts small v g in
    let few = f.few in
    facts_good large v (record { few = omega arith; each = f.each })

-- the first character of a text that starts with a first line is the first digit of its mark
first_character : (kind : Kind) (text : List ℕ) → is_header kind text ≡ true → get_or text 0 0 ≡ digit_of (kind.mark / 16)
first_character kind text e =
    let h = header_facts kind text e in
    let w = framed (head_size kind) text h.frame in
    let f : List ℕ = frame_of (head_size kind) text in
    let n = w.size in
    ap (λ (l : List ℕ). get_or l 0 0) (sym w.whole)
    ∙ ap (λ (l : List ℕ). get_or (line_of l ++ after_frame (head_size kind) text) 0 0) (drop-cons f 0 0 (omega arith))
    ∙ ap (λ (m : ℕ). digit_of (m / 16)) h.tag

-- so no text starts with first lines of both kinds
pub not_both : (text : List ℕ) → is_header kind11 text ≡ true → is_header kind01 text ≡ false
not_both text e = go (is_header kind01 text) refl
  where
    go : (b : Bool) → is_header kind01 text ≡ b → b ≡ false
    go true q = absurd (omega (arith, first_character kind11 text e, first_character kind01 text q))
    go false q = refl

module _ (text : List ℕ) where
  -- a text that starts with a first line of kind 11 is read as that, and any other as kind 01
  as_11 : is_header kind11 text ≡ true → load_of text ≡ read_as kind11 text
  unfolding kind_in
  as_11 e = ap (λ (b : Bool). read_as (cond b kind11 kind01) text) e

  as_01 : is_header kind11 text ≡ false → load_of text ≡ read_as kind01 text
  unfolding kind_in
  as_01 e = ap (λ (b : Bool). read_as (cond b kind11 kind01) text) e

  -- a text is accepted exactly when it is a saved form, in either kind, of a view that keeps the rules; and it gives that view
  pub accepted_iff : (v : View) → (load_of text ≡ loaded v) ↔ Saved v text
  accepted_iff v = (to (is_header kind11 text) refl, from)
    where
      to : (b : Bool) → is_header kind11 text ≡ b → load_of text ≡ loaded v → Saved v text
      to true q e = as11 (read_form kind11 text v (sym (as_11 q) ∙ e))
      to false q e = as01 (read_form kind01 text v (sym (as_01 q) ∙ e))

      from : Saved v text → load_of text ≡ loaded v
      from (as11 f) =
          let r = (form_iff kind11 text v sound_11).1 f in
          as_11 (read_header kind11 text v r) ∙ r
      from (as01 f) =
          let r = (form_iff kind01 text v sound_01).1 f in
          as_01 (other (is_header kind11 text) refl (read_header kind01 text v r)) ∙ r
        where
          other : (b : Bool) → is_header kind11 text ≡ b → is_header kind01 text ≡ true → b ≡ false
          other true q h = absurd (true≢false (sym h ∙ not_both text q))
          other false q h = refl

  -- what was accepted is shaped and keeps the rules of an index
  pub accepted_good : (v : View) → load_of text ≡ loaded v → Shaped v × (good key_limit v ≡ true)
  accepted_good v e = go ((accepted_iff v).0 e)
    where
      go : Saved v text → Shaped v × (good key_limit v ≡ true)
      go (as11 f) = (f.shaped, f.kept)
      go (as01 f) = (f.shaped, good_more kind01.limit key_limit v (omega arith) f.kept)

  -- a text of kind 11 that is accepted is written back the same
  pub written_back : (v : View) → is_header kind11 text ≡ true → load_of text ≡ loaded v → snapshot_of v ≡ text
  written_back v h e = (read_form kind11 text v (sym (as_11 h) ∙ e)).written

-- an index that keeps the rules comes back from its saved text
pub saved_loaded : (v : View) → Shaped v → good key_limit v ≡ true → load_of (snapshot_of v) ≡ loaded v
saved_loaded v s g = (accepted_iff (snapshot_of v) v).1 (as11 (record { written = refl; shaped = s; kept = g }))

-- a text of kind 01 that is accepted comes back as one of kind 11, and that gives the same node id, cap and keys
pub older_back : (text : List ℕ) (v : View) → is_header kind01 text ≡ true → load_of text ≡ loaded v
    → (form_of kind01 v ≡ text) × (load_of (snapshot_of v) ≡ loaded v)
older_back text v h e = (
  go ((accepted_iff text v).0 e),
  let s = accepted_good text v e in saved_loaded v s.0 s.1,
)
  where
    go : Saved v text → form_of kind01 v ≡ text
    go (as11 f) =
        absurd (true≢false (sym h ∙ not_both text (subst (λ (t : List ℕ). is_header kind11 t ≡ true) f.written (form_header kind11 v f.shaped sound_11 f.kept))))
    go (as01 f) = f.written

-- the longest saved text has 63,135 bytes
pub saved_longest : (v : View) → Shaped v → good key_limit v ≡ true → length (snapshot_of v) ≤ 63135
saved_longest v s g = let few = (good_facts key_limit v g).few in omega (arith, form_length kind11 v s)

-- the number of one byte
last_byte : (f : List ℕ) → length f ≡ 66 → le (drop 65 f) ≡ get_or f 65 0
unfolding le
last_byte f n = ap le (drop-cons f 65 0 (omega arith) ∙ ap (λ (l : List ℕ). get_or f 65 0 ∷ l) (drop_of_length-le f {i = 66} (omega arith))) ∙ omega arith

-- the reader of before reads kind 01, as it is read now
pub before_is : (text : List ℕ) → load_before text ≡ read_as kind01 text
unfolding load_before is_header_before read_as is_header
before_is text = go (is_frame 66 text) refl
  where
    keys : ℕ → Loading
    keys count = keys_of (take 32 (drop 1 (frame_of 66 text))) (take 32 (drop 33 (frame_of 66 text))) 2 0 count (after_frame 66 text)

    go : (b : Bool) → is_frame 66 text ≡ b
        → cond (b && eqb (get_or (frame_of 66 text) 0 0) 1 && leb (get_or (frame_of 66 text) 65 0) 240) (keys (get_or (frame_of 66 text) 65 0)) (bad_line 1)
        ≡ cond (b && eqb (get_or (frame_of 66 text) 0 0) 1 && leb (le (drop 65 (frame_of 66 text))) 240) (keys (le (drop 65 (frame_of 66 text)))) (bad_line 1)
    go true q =
        ap (λ (n : ℕ). cond (eqb (get_or (frame_of 66 text) 0 0) 1 && leb n 240) (keys n) (bad_line 1))
        (sym (last_byte (frame_of 66 text) (framed 66 text q).size))
    go false q = refl

-- a box of before refuses every text that starts with a first line of kind 11, at that line
pub before_refuses : (text : List ℕ) → is_header kind11 text ≡ true → load_before text ≡ bad_line 1
unfolding read_as
before_refuses text e =
    before_is text
    ∙ ap (λ (b : Bool). cond b (keys_of (node_in kind01 text) (cap_in kind01 text) 2 0 (count_in kind01 text) (after_frame 66 text)) (bad_line 1)) (not_both text e)
