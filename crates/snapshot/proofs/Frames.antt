-- One line and the frame on it, both ways: a text that starts with a frame's line is that line and the text after it, and a frame's line
-- gives the frame back. Assumes nothing.
use Prim.Native.Nat.{ℕ, zero, suc, ◌+◌, ◌*◌, ◌<◌}
use native.Mathlib.Numerals.{add-one}
use native.Mathlib.Omega.{arith}
use mathlib.Core.Path.{◌≡◌, sym, ap, ap₂, ◌∙◌}
use mathlib.Core.Bool.{true, and-eq-true_iff}
use mathlib.Core.List.{List, [], ◌∷◌, ◌++◌}
use Rattle.std.specs.Prelude.{Some}
use lib.Dec.{eqb}
use lib.ListN.{length, get_or, take, drop, length-append}
use lib.Seq.{append_snoc, split_at, take_at, drop_at, get_or_at, length-take-le}
use borrow.Author.Tests.{eqb-true, eq-eqb}
use Rattle.octets.specs.Bytes.{Bytes}
use Rattle.hexadecimal.specs.Digits.{text_of, bytes_of, all_digits}
use Rattle.hexadecimal.proofs.Texts.{bytes_of_pairs, bytes_of_text, text_of_bytes, bytes_below, length_of_bytes, length_text, digits_of_bytes}
use Rattle.snapshot.specs.Text.{line_of}
use Rattle.snapshot.specs.Load.{is_frame, or_none, frame_of, after_frame}

-- a place with a line feed is inside the text
feed_inside : (text : List ℕ) (m : ℕ) → get_or text m 0 ≡ 10 → m < length text
feed_inside [] m e = absurd (omega arith)
feed_inside (c ∷ text) zero e = omega arith
feed_inside (c ∷ text) (suc m) e = let h = feed_inside text m e in omega arith

-- what is known of a text that starts with the line of a frame of n bytes
pub record Framed (n : ℕ) (text : List ℕ) : Type 0 where
  pub size : length (frame_of n text) ≡ n
  pub bytes : Bytes (frame_of n text)
  pub inside : 2 * n < length text
  pub whole : line_of (frame_of n text) ++ after_frame n text ≡ text

module _ (n : ℕ) (text : List ℕ) where
  -- the frame is the bytes of the line's digits
  pub frame_is : {bs : List ℕ} → bytes_of (take (2 * n) text) ≡ Some bs → frame_of n text ≡ bs
  unfolding frame_of
  frame_is e = ap or_none e

  tests : is_frame n text ≡ true → (get_or text (2 * n) 0 ≡ 10) × (all_digits (take (2 * n) text) ≡ true)
  unfolding is_frame
  tests e =
      let both = (and-eq-true_iff (eqb (get_or text (2 * n) 0) 10) (all_digits (take (2 * n) text))).0 e in
      (eqb-true (get_or text (2 * n) 0) 10 both.0, both.1)

  -- the parts of a text that starts with a frame's line
  pub framed : is_frame n text ≡ true → Framed n text
  framed e =
      let t = tests e in
      let inside = feed_inside text (2 * n) t.0 in
      let long = length-take-le (2 * n) text (omega arith) in
      let read = bytes_of_pairs (take (2 * n) text) t.1 (omega arith) in
      let is = frame_is read in
      let some-frame = read ∙ ap Some (sym is) in
      record {
        size = let two = length_of_bytes (take (2 * n) text) (frame_of n text) some-frame in omega arith;
        bytes = bytes_below (take (2 * n) text) (frame_of n text) some-frame;
        inside = inside;
        whole = append_snoc (text_of (frame_of n text)) 10 (after_frame n text)
            ∙ ap₂ (λ (x y : List ℕ). x ++ y) (text_of_bytes (take (2 * n) text) (frame_of n text) some-frame)
            (ap₂ (λ (x : ℕ) (y : List ℕ). x ∷ y) (sym t.0) (ap (λ (k : ℕ). drop k text) (add-one (2 * n))))
            ∙ sym (split_at text (2 * n) 0 inside);
      }

module _ (n : ℕ) (frame rest : List ℕ) (size : length frame ≡ n) (bytes : Bytes frame) where
  long : length (text_of frame) ≡ 2 * n
  long = omega (arith, length_text frame)

  front : take (2 * n) (line_of frame ++ rest) ≡ text_of frame
  front =
      ap (take (2 * n)) (append_snoc (text_of frame) 10 rest) ∙ take_at (text_of frame) (10 ∷ rest) (2 * n) long

  -- a frame's line is one
  pub line_frame : is_frame n (line_of frame ++ rest) ≡ true
  unfolding is_frame
  line_frame =
      let feed : get_or (line_of frame ++ rest) (2 * n) 0 ≡ 10 =
      ap (λ (l : List ℕ). get_or l (2 * n) 0) (append_snoc (text_of frame) 10 rest) ∙ get_or_at (text_of frame) 10 rest 0 (2 * n) long in
      (and-eq-true_iff (eqb (get_or (line_of frame ++ rest) (2 * n) 0) 10) (all_digits (take (2 * n) (line_of frame ++ rest)))).1
      (eq-eqb _ _ feed, ap all_digits front ∙ digits_of_bytes (text_of frame) frame (bytes_of_text frame bytes))

  -- it gives the frame
  pub line_gives : frame_of n (line_of frame ++ rest) ≡ frame
  line_gives = frame_is n (line_of frame ++ rest) (ap bytes_of front ∙ bytes_of_text frame bytes)

  -- and the text after it
  pub line_rest : after_frame n (line_of frame ++ rest) ≡ rest
  line_rest = drop_at (line_of frame) rest (2 * n + 1) (omega (arith, length-append (text_of frame) (10 ∷ []), long))
