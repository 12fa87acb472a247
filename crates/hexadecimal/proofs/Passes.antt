-- What one turn of each loop does, of the pass that tests the characters and of the two that write; and what each way out
-- of `encode` and `decode` answers and leaves.
use Prim.Native.Nat.{ℕ, zero, suc, ◌+◌, ◌-◌, ◌*◌, ◌/◌, ◌%◌, ◌≤◌, ◌<◌}
use mathlib.Core.Bool.{Bool, true, false, cond, ◌&&◌, and_assoc, and-true}
use mathlib.Core.List.{List, [], ◌∷◌, ◌++◌, map}
use Rattle.std.specs.Prelude.{Option, Some, None, Ok, Err}
use mathlib.Core.Path.{◌≡◌, refl, ap, ap₂, sym, ◌∙◌, subst}
use native.Mathlib.Nat.{zero-add}
use native.Mathlib.Numerals.{add-one}
use native.Mathlib.Omega.{arith}
use lib.ListN.{length, get_or, take, drop, set, length-map, get_or-map}
use Rattle.std.specs.List.{fold}
use Rattle.std.specs.Simd.{first_chunks}
use lib.Seq.{take-length, paste, paste-suc}
use lib.Dec.{leb}
use borrow.Author.Tests.{le-leb, lt-leb}
use Rattle.hexadecimal.specs.Digits.{digit_of, value_of, text_of, bytes_of, is_digit, number_of, all_digits}
use Rattle.octets.specs.Buffer.{has_room}
use Rattle.octets.proofs.Tests.{both}
use Rattle.octets.proofs.Buffers.{too_long, fits, not_placed, placed_all}
use Rattle.hexadecimal.specs.Buffer.{encoded_to, decoded_to, decoded_of, filled, filled_of}
use Rattle.hexadecimal.specs.declared.DecodeError.TheVariants.{NotHex, NoRoom}
use Rattle.hexadecimal.proofs.Texts.{length_text, pairs_of}

-- the pass over the characters is the test of the text
pub digits_folded : (text : List ℕ) → fold (λ all c. all && is_digit (value_of c)) true text ≡ all_digits text
digits_folded text = go text true
  where
    go : (text : List ℕ) (b : Bool) → fold (λ all c. all && is_digit (value_of c)) b text ≡ (b && all_digits text)
    go [] b = sym (and-true b)
    go (c ∷ text) b = go text (b && is_digit (value_of c)) ∙ (and_assoc b (is_digit (value_of c)) (all_digits text))

-- one more byte is two more characters
twice : (i : ℕ) → 2 * suc i ≡ suc (suc (2 * i))
twice i = omega arith

-- the first character of a byte
text_high : (bs : List ℕ) (i : ℕ) → i < length bs → get_or (text_of bs) (2 * i) 0 ≡ digit_of (get_or bs i 0 / 16)
text_high [] i h = absurd (omega arith)
text_high (b ∷ bs) zero h = refl
text_high (b ∷ bs) (suc i) h = rw (twice i) (text_high bs i (omega arith))

-- the second character of a byte
text_low : (bs : List ℕ) (i : ℕ) → i < length bs → get_or (text_of bs) (suc (2 * i)) 0 ≡ digit_of (get_or bs i 0 % 16)
text_low [] i h = absurd (omega arith)
text_low (b ∷ bs) zero h = refl
text_low (b ∷ bs) (suc i) h = rw (twice i) (text_low bs i (omega arith))

-- two stores take the text of i bytes to that of i + 1
pub put_text : (d : List ℕ) (at : ℕ) (bs : List ℕ) (i : ℕ) → i < length bs → at + 2 * length bs ≤ length d
    → (out : List ℕ) → out ≡ paste d at (text_of bs) (2 * i)
    → (h l : ℕ) → h ≡ digit_of (get_or bs i 0 / 16) → l ≡ digit_of (get_or bs i 0 % 16)
    → set (set out (at + 2 * i) h) (at + 2 * i + 1) l ≡ paste d at (text_of bs) (2 * (i + 1))
put_text d at bs i small room out before h l of-h of-l =
    let s : List ℕ = text_of bs in
    let n : length s ≡ 2 * length bs = length_text bs in
    let there : at + 2 * i + 1 ≡ at + suc (2 * i) = omega arith in
    let next : suc (suc (2 * i)) ≡ 2 * (i + 1) = omega arith in
    ap (λ (q : List ℕ). set (set q (at + 2 * i) h) (at + 2 * i + 1) l) before
    ∙ ap₂ (λ (x y : ℕ). set (set (paste d at s (2 * i)) (at + 2 * i) x) (at + 2 * i + 1) y)
    (of-h ∙ sym (text_high bs i small)) (of-l ∙ sym (text_low bs i small))
    ∙ ap (λ (q : List ℕ). set q (at + 2 * i + 1) (get_or s (suc (2 * i)) 0))
    (paste-suc d at s (2 * i) 0 (omega arith) (omega arith))
    ∙ ap (λ (k : ℕ). set (paste d at s (suc (2 * i))) k (get_or s (suc (2 * i)) 0)) there
    ∙ paste-suc d at s (suc (2 * i)) 0 (omega arith) (omega arith)
    ∙ ap (paste d at s) next

-- the byte of two characters
abbrev pub byte_of : List ℕ → ℕ
byte_of pair = number_of (value_of (get_or pair 0 0)) * 16 + number_of (value_of (get_or pair 1 0))

-- both characters of a pair are digits
abbrev pub BothDigits : List ℕ → Type 0
BothDigits pair = (is_digit (value_of (get_or pair 0 0)) ≡ true) × (is_digit (value_of (get_or pair 1 0)) ≡ true)

-- the bytes of a text are those of its pairs
pairs_mapped : (text : List ℕ) → pairs_of text ≡ map byte_of (first_chunks 2 (length text / 2) text)
pairs_mapped [] = refl
pairs_mapped (c ∷ []) = refl
pairs_mapped (h ∷ l ∷ text) =
    let more : suc (suc (length text)) / 2 ≡ suc (length text / 2) = omega arith in
    rw (more, pairs_mapped text)

-- where all characters are digits, so are both of each pair
pub digits_paired : (text : List ℕ) (pairs : List (List ℕ)) → pairs ≡ first_chunks 2 (length text / 2) text → all_digits text ≡ true
    → (i : ℕ) → i < length pairs → BothDigits (get_or pairs i [])
digits_paired text pairs are all = subst (λ (ps : List (List ℕ)). (i : ℕ) → i < length ps → BothDigits (get_or ps i [])) (sym are) (go text all)
  where
    go : (text : List ℕ) → all_digits text ≡ true → (i : ℕ) → i < length (first_chunks 2 (length text / 2) text)
        → BothDigits (get_or (first_chunks 2 (length text / 2) text) i [])
    go [] all i h = absurd (omega arith)
    go (c ∷ []) all i h = absurd (omega arith)
    go (a ∷ b ∷ text) all zero h =
        let more : suc (suc (length text)) / 2 ≡ suc (length text / 2) = omega arith in
        let first : (is_digit (value_of a) ≡ true) × ((is_digit (value_of b) && all_digits text) ≡ true) = both _ _ all in
        rw more (first.0, (both _ _ first.1).0)
    go (a ∷ b ∷ text) all (suc i) h =
        let more : suc (suc (length text)) / 2 ≡ suc (length text / 2) = omega arith in
        let rest : all_digits text ≡ true = (both _ _ (both _ _ all).1).1 in
        let there : suc i < suc (length (first_chunks 2 (length text / 2) text)) =
        subst (λ (n : ℕ). suc i < length (first_chunks 2 n (a ∷ b ∷ text))) more h in
        let less : i < length (first_chunks 2 (length text / 2) text) = omega arith in
        rw more (go text rest i less)

-- two characters make a byte
pub length_pairs : (text : List ℕ) → length (pairs_of text) ≡ length text / 2
length_pairs [] = refl
length_pairs (c ∷ []) = refl
length_pairs (c ∷ l ∷ text) = let rest = length_pairs text in omega arith

-- a store takes the first i bytes to the first i + 1
pub put_byte : (d text : List ℕ) (pairs : List (List ℕ)) → pairs ≡ first_chunks 2 (length text / 2) text → (i : ℕ) → i < length pairs → i < length d
    → (out : List ℕ) → out ≡ take i (pairs_of text) ++ drop i d
    → (v : ℕ) → v ≡ byte_of (get_or pairs i []) → set out i v ≡ take (i + 1) (pairs_of text) ++ drop (i + 1) d
unfolding value_of
put_byte d text pairs are i small room out before v is =
    let s : List ℕ = pairs_of text in
    let mapped : s ≡ map byte_of pairs = pairs_mapped text ∙ ap (map byte_of) (sym are) in
    let n : length s ≡ length pairs = ap length mapped ∙ length-map pairs byte_of in
    let v_is : v ≡ get_or s i 0 = is ∙ sym (get_or-map byte_of pairs i []) ∙ ap (λ (l : List ℕ). get_or l i 0) (sym mapped) in
    ap₂ (λ (q : List ℕ) (x : ℕ). set q i x) before v_is
    ∙ rw add-one (simp zero-add at (paste-suc d 0 s i 0 (omega arith) (omega arith)))

-- where the text has no room, the answer is false and the buffer is as it was
pub refused : (d : List ℕ) (at : ℕ) (bs : List ℕ) → has_room d at (text_of bs) ≡ false
    → (false ≡ has_room d at (text_of bs)) × (d ≡ encoded_to bs d at)
refused d at bs e = (sym e, not_placed d at (text_of bs) e)

-- where the text has room, the answer is true and the buffer has all of the text
pub accepted : (d : List ℕ) (at : ℕ) (bs : List ℕ) (i : ℕ) → i ≡ length bs → at + 2 * length bs ≤ length d
    → (true ≡ has_room d at (text_of bs)) × (paste d at (text_of bs) (2 * i) ≡ encoded_to bs d at)
accepted d at bs i last h =
    let n = length_text bs in (
      sym (fits d at (text_of bs) (omega arith)),
      placed_all d at (text_of bs) (2 * i) (omega arith) (omega arith),
    )

-- the text does not fit behind its start
pub no_place : (d : List ℕ) (at : ℕ) (bs : List ℕ) → at ≤ length d → (length d - at) / 2 < length bs
    → has_room d at (text_of bs) ≡ false
no_place d at bs h l = too_long d at (text_of bs) h (omega (arith, length_text bs))

-- what a text that stands for nothing answers, and leaves
pub not_hex : (text d : List ℕ) → bytes_of text ≡ None → (Err NotHex ≡ decoded_of text d) × (d ≡ filled_of text d)
not_hex text d e =
    (sym (ap (λ (o : Option (List ℕ)). decoded_to o (length d)) e), sym (ap (λ (o : Option (List ℕ)). filled o d) e))

-- what bytes that do not fit answer, and leave
pub no_room : (text d bs : List ℕ) → bytes_of text ≡ Some bs → length d < length bs
    → (Err NoRoom ≡ decoded_of text d) × (d ≡ filled_of text d)
no_room text d bs e h =
    let t : leb (length bs) (length d) ≡ false = lt-leb (length bs) (length d) h in (
      sym (ap (λ (o : Option (List ℕ)). decoded_to o (length d)) e ∙ ap (λ (b : Bool). cond b (Ok (length bs)) (Err NoRoom)) t),
      sym (ap (λ (o : Option (List ℕ)). filled o d) e ∙ ap (λ (b : Bool). cond b (bs ++ drop (length bs) d) d) t),
    )

-- what bytes that fit answer, and leave
pub put_all : (text d bs : List ℕ) (n i : ℕ) → n ≡ length bs → i ≡ length bs → bytes_of text ≡ Some bs → length bs ≤ length d
    → (Ok n ≡ decoded_of text d) × (take i bs ++ drop i d ≡ filled_of text d)
put_all text d bs n i all last e h =
    let t : leb (length bs) (length d) ≡ true = le-leb (length bs) (length d) h in (
      ap Ok all
          ∙ sym (ap (λ (o : Option (List ℕ)). decoded_to o (length d)) e ∙ ap (λ (b : Bool). cond b (Ok (length bs)) (Err NoRoom)) t),
      ap (λ (k : ℕ). take k bs ++ drop k d) last
          ∙ ap (λ (l : List ℕ). l ++ drop (length bs) d) (take-length bs)
          ∙ sym (ap (λ (o : Option (List ℕ)). filled o d) e ∙ ap (λ (b : Bool). cond b (bs ++ drop (length bs) d) d) t),
    )
