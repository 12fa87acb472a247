-- Bytes as text, and the text read back.
use Prim.Native.Nat.{ℕ, ◌+◌, ◌*◌, ◌/◌, ◌%◌}
use mathlib.Core.Bool.{true, false, ◌&&◌, and_assoc, true≢false, false≢true}
use mathlib.Core.List.{List, [], ◌∷◌, ◌++◌}
use Rattle.std.specs.Prelude.{Option, Some, None}
use mathlib.Core.Path.{◌≡◌, Path, refl, ap, sym, subst, ◌∙◌}
use native.Mathlib.Nat.{div-add-mod'}
use native.Mathlib.Omega.{arith}
use lib.ListN.{length}
use lib.Arith.{digits_div, digits_mod}
use Rattle.octets.specs.Bytes.{Bytes}
use Rattle.hexadecimal.specs.Digits.{value_of, text_of, joined, bytes_of, is_digit, number_of, all_digits}
use Rattle.hexadecimal.proofs.Digits.{value_of_digit, digit_of_value}

-- the text has two characters for each byte
pub length_text : (bs : List ℕ) → length (text_of bs) ≡ 2 * length bs
length_text [] = refl
length_text (b ∷ bs) = let rest = length_text bs in omega arith

-- the text of bytes one after another is their texts one after another
pub text_append : (xs ys : List ℕ) → text_of (xs ++ ys) ≡ text_of xs ++ text_of ys
text_append [] ys = refl
text_append (x ∷ xs) ys = rw (text_append xs ys)

-- two texts one after another are digits where both are
pub all_digits_append : (s t : List ℕ) → all_digits (s ++ t) ≡ (all_digits s && all_digits t)
all_digits_append [] t = refl
all_digits_append (c ∷ s) t = rw (all_digits_append s t) (sym (and_assoc (is_digit (value_of c)) (all_digits s) (all_digits t)))

-- bytes are read back from their text
pub bytes_of_text : (bs : List ℕ) → Bytes bs → bytes_of (text_of bs) ≡ Some bs
bytes_of_text [] h = refl
bytes_of_text (b ∷ bs) (small, rest) =
    rw (value_of_digit (b / 16) (omega arith), value_of_digit (b % 16) (omega arith), bytes_of_text bs rest)
    (ap (λ (x : ℕ). Some (x ∷ bs)) (div-add-mod' b 16))

-- what is known where a text of two characters and more stands for bytes
record Split (h l : ℕ) (text bs : List ℕ) : Type 0 where
  high : ℕ
  low : ℕ
  rest : List ℕ
  of_high : value_of h ≡ Some high
  of_low : value_of l ≡ Some low
  of_rest : bytes_of text ≡ Some rest
  whole : bs ≡ (high * 16 + low) ∷ rest

-- such a text is split so
split : (h l : ℕ) (text bs : List ℕ) → bytes_of (h ∷ l ∷ text) ≡ Some bs → Split h l text bs
split h l text bs e = go (value_of h) refl (value_of l) refl (bytes_of text) refl e
  where
    clash : Path (Option (List ℕ)) None (Some bs) → Split h l text bs
    clash p = cc

    go : (x : Option ℕ) → value_of h ≡ x → (y : Option ℕ) → value_of l ≡ y → (z : Option (List ℕ)) → bytes_of text ≡ z
        → joined x y z ≡ Some bs → Split h l text bs
    go (Some a) p (Some b) q (Some r) s w =
        record { high = a; low = b; rest = r; of_high = p; of_low = q; of_rest = s; whole = cc }
    go (Some a) p (Some b) q None s w = clash w
    go (Some a) p None q z s w = clash w
    go None p y q z s w = clash w

-- the text of the bytes that were read is the text
pub text_of_bytes : (text bs : List ℕ) → bytes_of text ≡ Some bs → text_of bs ≡ text
text_of_bytes [] bs e = let same : [] ≡ bs = cc in ap text_of (sym same)
text_of_bytes (h ∷ []) bs e = cc
text_of_bytes (h ∷ l ∷ text) bs e = glued (split h l text bs e) (text_of_bytes text _ (split h l text bs e).of_rest)
  where
    glued : (s : Split h l text bs) → text_of s.rest ≡ text → text_of bs ≡ h ∷ l ∷ text
    glued s ih =
        let hi = digit_of_value h s.high s.of_high in
        let lo = digit_of_value l s.low s.of_low in
        ap text_of s.whole
        ∙ rw (digits_div s.high {m = 16} lo.1, digits_mod s.high {m = 16} lo.1, hi.0, lo.0, ih)

-- what was read are bytes
pub bytes_below : (text bs : List ℕ) → bytes_of text ≡ Some bs → Bytes bs
bytes_below [] bs e = let same : [] ≡ bs = cc in subst Bytes same tt
bytes_below (h ∷ []) bs e = cc
bytes_below (h ∷ l ∷ text) bs e = glued (split h l text bs e) (bytes_below text _ (split h l text bs e).of_rest)
  where
    glued : (s : Split h l text bs) → Bytes s.rest → Bytes bs
    glued s ih =
        let hi = digit_of_value h s.high s.of_high in
        let lo = digit_of_value l s.low s.of_low in
        subst Bytes (sym s.whole) (omega arith, ih)

-- a text that stands for bytes has two characters for each
pub length_of_bytes : (text bs : List ℕ) → bytes_of text ≡ Some bs → length text ≡ 2 * length bs
length_of_bytes text bs e = sym (ap length (text_of_bytes text bs e)) ∙ length_text bs

-- a text that stands for bytes has digits only
pub digits_of_bytes : (text bs : List ℕ) → bytes_of text ≡ Some bs → all_digits text ≡ true
digits_of_bytes [] bs e = refl
digits_of_bytes (h ∷ []) bs e = cc
digits_of_bytes (h ∷ l ∷ text) bs e = glued (split h l text bs e) (digits_of_bytes text _ (split h l text bs e).of_rest)
  where
    glued : (s : Split h l text bs) → all_digits text ≡ true → all_digits (h ∷ l ∷ text) ≡ true
    glued s ih = rw (s.of_high, s.of_low, ih)

-- the bytes of a text of digits: each pair of characters by the numbers that these stand for
abbrev pub pairs_of : List ℕ → List ℕ
pairs_of [] = []
pairs_of (h ∷ []) = []
pairs_of (h ∷ l ∷ text) = (number_of (value_of h) * 16 + number_of (value_of l)) ∷ pairs_of text

-- an even number of digits stands for those bytes
pub bytes_of_pairs : (text : List ℕ) → all_digits text ≡ true → length text % 2 ≡ 0 → bytes_of text ≡ Some (pairs_of text)
bytes_of_pairs [] d n = refl
bytes_of_pairs (h ∷ []) d n = absurd (omega arith)
bytes_of_pairs (h ∷ l ∷ text) d n = go (value_of h) (value_of l) d
    (λ rest. bytes_of_pairs text rest (omega arith))
  where
    go : (x y : Option ℕ) → (is_digit x && (is_digit y && all_digits text)) ≡ true
        → (all_digits text ≡ true → bytes_of text ≡ Some (pairs_of text))
        → joined x y (bytes_of text) ≡ Some ((number_of x * 16 + number_of y) ∷ pairs_of text)
    go (Some a) (Some b) e ih = rw (ih e)
    go (Some a) None e ih = absurd (false≢true e)
    go None y e ih = absurd (false≢true e)

-- a text with another character stands for nothing
pub no_bytes_other : (text : List ℕ) → all_digits text ≡ false → bytes_of text ≡ None
no_bytes_other text d = go (bytes_of text) refl
  where
    go : (o : Option (List ℕ)) → bytes_of text ≡ o → o ≡ None
    go None e = refl
    go (Some bs) e =
        let all = digits_of_bytes text bs e in
        absurd (true≢false (sym all ∙ d))

-- an odd number of characters stands for nothing
pub no_bytes_odd : (text : List ℕ) → length text % 2 ≡ 1 → bytes_of text ≡ None
no_bytes_odd text n = go (bytes_of text) refl
  where
    go : (o : Option (List ℕ)) → bytes_of text ≡ o → o ≡ None
    go None e = refl
    go (Some bs) e =
        let two = length_of_bytes text bs e in
        absurd (omega arith)
