-- Laws on `bit_length`: its bounds, that they determine it, that the first byte that is not 0 gives it by its leading zeros, and how it
-- compares with the logarithm rounded down. Assumes nothing.
use Prim.Native.Nat.{ℕ, zero, suc, ◌+◌, ◌*◌, ◌-◌, ◌^◌, ◌≤◌, ◌<◌}
use native.Mathlib.Nat.{not-suc-le-zero, not-le_of_lt, lt_of_not-le, lt_of_le_of_lt, pow-succ', mul-le-mul_right, mul_comm, add-suc, one-le-pow}
use native.Mathlib.Omega.{arith}
use mathlib.Core.Path.{◌≡◌, refl, sym, ap, ◌∙◌, subst}
use mathlib.Core.Bool.{Bool, true, false, cond, not}
use mathlib.Core.List.{List, [], ◌∷◌}
use lib.Dec.{leb, eqb, ltb, lit<}
use lib.Arith.{digits_lt}
use lib.Count.{count_leading_zeros, leading_top, leading_le}
use lib.Pow.{pow_mono, pow-add}
use lib.ListN.{length, get_or, drop, length-drop, drop_of_length-le}
use lib.Seq.{drop-cons}
use borrow.Author.Tests.{leb-true, leb-false, eqb-true, eqb-false, not-true, not-false, ltb-false}
use Rattle.std.proofs.Common.{Option, Some, None}
use Rattle.std.specs.List.{position, position_or_len}
use Rattle.std.proofs.lemmas.List.Quantifiers.{position-Some}
use Rattle.std.proofs.lemmas.Option.{none-some}
use Rattle.std.proofs.lemmas.List.Sums.{fails_before_first}
use Rattle.octets.specs.Bytes.{Bytes, be}
use Rattle.distance.specs.Distance.{bit_length}
use Rattle.distance.specs.Before.{log_below}
use Rattle.octets.proofs.Numbers.{be_lt, be_zero_first, bytes_at_lem, bytes_drop}

-- powers of two are in the order of their exponents
pow_below : {i j : ℕ} → 2 ^ i < 2 ^ j → i < j
pow_below h = lt_of_not-le (λ k. not-le_of_lt h (pow_mono k))

-- a number that is not 0 is at least the power of all its bits but one
pub bits_low : (w n : ℕ) → 0 < n → n < 2 ^ w → 2 ^ (bit_length w n - 1) ≤ n
unfolding bit_length
bits_low zero n p h = absurd (omega arith)
bits_low (suc w) n p h = go (leb (2 ^ w) n) refl (bits_low w n p)
  where
    go : (t : Bool) → leb (2 ^ w) n ≡ t → (n < 2 ^ w → 2 ^ (bit_length w n - 1) ≤ n) → 2 ^ (cond t (suc w) (bit_length w n) - 1) ≤ n
    go true e ih = let l : w ≡ suc w - 1 = omega arith in subst (λ (k : ℕ). 2 ^ k ≤ n) l (leb-true (2 ^ w) n e)
    go false e ih = ih (leb-false (2 ^ w) n e)

-- it is below the power of all of them
pub bits_high : (w n : ℕ) → n < 2 ^ w → n < 2 ^ bit_length w n
unfolding bit_length
bits_high zero n h = h
bits_high (suc w) n h = go (leb (2 ^ w) n) refl (bits_high w n)
  where
    go : (t : Bool) → leb (2 ^ w) n ≡ t → (n < 2 ^ w → n < 2 ^ bit_length w n) → n < 2 ^ cond t (suc w) (bit_length w n)
    go true e ih = h
    go false e ih = ih (leb-false (2 ^ w) n e)

-- the two bounds determine the bit length
pub bits_unique : (w n k : ℕ) → 2 ^ k ≤ n → n < 2 ^ suc k → k < w → bit_length w n ≡ suc k
unfolding bit_length
bits_unique zero n k a b h = absurd (not-suc-le-zero h)
bits_unique (suc w) n k a b h = go (leb (2 ^ w) n) refl (bits_unique w n k a b)
  where
    go : (t : Bool) → leb (2 ^ w) n ≡ t → (k < w → bit_length w n ≡ suc k) → cond t (suc w) (bit_length w n) ≡ suc k
    go true e ih =
        let l : w < suc k = pow_below (lt_of_le_of_lt (leb-true (2 ^ w) n e) b) in omega arith
    go false e ih = ih (pow_below (lt_of_le_of_lt a (leb-false (2 ^ w) n e)))

-- 0 has no bits
pub bits_none : (w : ℕ) → bit_length w 0 ≡ 0
unfolding bit_length
bits_none zero = refl
bits_none (suc w) = go (leb (2 ^ w) 0) refl (bits_none w)
  where
    go : (t : Bool) → leb (2 ^ w) 0 ≡ t → bit_length w 0 ≡ 0 → cond t (suc w) (bit_length w 0) ≡ 0
    go true e ih = let l : 2 ^ w ≤ 0 = leb-true (2 ^ w) 0 e in absurd (omega (arith, one-le-pow w 2 (lit< tt)))
    go false e ih = ih

-- only 0 has none
pub bits_zero : (w n : ℕ) → n < 2 ^ w → bit_length w n ≡ 0 → n ≡ 0
bits_zero w n h e = let l : n < 2 ^ 0 = subst (λ (k : ℕ). n < 2 ^ k) e (bits_high w n h) in omega arith

-- there are no more bits than the width
pub bits_most : (w n : ℕ) → bit_length w n ≤ w
unfolding bit_length
bits_most zero n = omega arith
bits_most (suc w) n = go (leb (2 ^ w) n) (bits_most w n)
  where
    go : (t : Bool) → bit_length w n ≤ w → cond t (suc w) (bit_length w n) ≤ suc w
    go true ih = omega arith
    go false ih = omega arith

-- a number that is not 0 has one bit more than its logarithm rounded down
pub bits_rounded : (w n : ℕ) → 0 < n → n < 2 ^ w → bit_length w n ≡ suc (log_below w n)
unfolding bit_length log_below
bits_rounded zero n p h = absurd (omega arith)
bits_rounded (suc w) n p h = go (leb (2 ^ w) n) refl (bits_rounded w n p)
  where
    go : (t : Bool) → leb (2 ^ w) n ≡ t → (n < 2 ^ w → bit_length w n ≡ suc (log_below w n))
        → cond t (suc w) (bit_length w n) ≡ suc (cond t w (log_below w n))
    go true e ih = refl
    go false e ih = ih (leb-false (2 ^ w) n e)

-- a power of 256 is a power of two
pow_bytes : (l : ℕ) → 256 ^ l ≡ 2 ^ (8 * l)
pow_bytes zero = refl
pow_bytes (suc l) =
    pow-succ' 256 l ∙ ap (λ (m : ℕ). 256 * m) (pow_bytes l) ∙ sym (pow-add 2 8 (8 * l)) ∙ ap (λ (m : ℕ). 2 ^ m) (omega arith)

-- each byte has room for eight bits
pub be_bits : (xs : List ℕ) → Bytes xs → be xs < 2 ^ (8 * length xs)
be_bits xs h = subst (λ (m : ℕ). be xs < m) (pow_bytes (length xs)) (be_lt xs h)

-- powers of two past l bytes
pow_head : (l j : ℕ) → 2 ^ (8 * l + j) ≡ 2 ^ j * 256 ^ l
pow_head l j = pow-add 2 (8 * l) j ∙ ap (λ (m : ℕ). m * 2 ^ j) (sym (pow_bytes l)) ∙ mul_comm (256 ^ l) (2 ^ j)

-- a first byte that is not 0 gives the bit length: its leading zeros and the bits are eight for each byte
pub bits_first : (w x : ℕ) (xs : List ℕ) → 0 < x → x < 256 → Bytes xs → 8 * suc (length xs) ≤ w
    → count_leading_zeros 8 x + bit_length w (be (x ∷ xs)) ≡ 8 * suc (length xs)
unfolding be
bits_first w x xs p h hs l =
    let t = leading_top 8 x p h in
    let k : ℕ = t.0 in
    let a : 2 ^ k * 256 ^ length xs ≤ x * 256 ^ length xs = mul-le-mul_right (256 ^ length xs) t.2 in
    let b : x * 256 ^ length xs + be xs < 2 ^ suc k * 256 ^ length xs = digits_lt t.3 (be_lt xs hs) in
    let e : bit_length w (x * 256 ^ length xs + be xs) ≡ suc (8 * length xs + k) =
    bits_unique w (x * 256 ^ length xs + be xs) (8 * length xs + k) (omega (arith, pow_head (length xs) k))
    (omega (arith, ap (λ (m : ℕ). 2 ^ m) (add-suc (8 * length xs) k), pow_head (length xs) (suc k))) (omega arith) in
    omega arith

-- bytes of 0 at the front leave the number to the rest
zeros_passed : (d : List ℕ) (i : ℕ) → ((k : ℕ) → k < i → get_or d k 0 ≡ 0) → be d ≡ be (drop i d)
zeros_passed [] zero h = refl
zeros_passed [] (suc i) h = refl
zeros_passed (x ∷ d) zero h = refl
zeros_passed (x ∷ d) (suc i) h =
    ap (λ (y : ℕ). be (y ∷ d)) (h 0 (omega arith)) ∙ be_zero_first d ∙ zeros_passed d i (λ k l. h (suc k) (omega arith))

-- a byte is looked for that is not 0: one that fails the test is
not_set : (x : ℕ) → not (eqb x 0) ≡ false → x ≡ 0
not_set x e = eqb-true x 0 (not-false (eqb x 0) e)

-- the first byte that is not 0 gives the bit length, with the bytes in front of it
pub bits_found : (d : List ℕ) (at : ℕ) → position (λ x. not (eqb x 0)) d ≡ Some at → Bytes d → length d ≡ 32
    → (at < 32) × (count_leading_zeros 8 (get_or d at 0) + 8 * at + bit_length 256 (be d) ≡ 256) × (count_leading_zeros 8 (get_or d at 0) ≤ 8)
bits_found d at e b l =
    let first = position-Some (λ x. not (eqb x 0)) d at 0 e in
    let set : 0 < get_or d at 0 = omega (arith, eqb-false (get_or d at 0) 0 (not-true (eqb (get_or d at 0) 0) first.1)) in
    let n : length (drop (suc at) d) ≡ length d - suc at = length-drop (suc at) d in
    let passed : be d ≡ be (get_or d at 0 ∷ drop (suc at) d) =
    zeros_passed d at (λ k h. not_set _ (first.2 k h)) ∙ ap be (drop-cons d at 0 first.0) in
    let bits = bits_first 256 (get_or d at 0) (drop (suc at) d) set (bytes_at_lem d b at) (bytes_drop (suc at) d b) (omega arith) in
    (omega arith, omega (arith, ap (bit_length 256) passed), leading_le 8 (get_or d at 0))

-- where there is none, there are no bits
pub bits_not_found : (d : List ℕ) → position (λ x. not (eqb x 0)) d ≡ None → bit_length 256 (be d) ≡ 0
unfolding be
bits_not_found d e =
    ap (bit_length 256)
    (zeros_passed d (length d) (λ k h. not_set _ (fails_before_first (λ x. not (eqb x 0)) d k 0 (none_past d k e h)))
    ∙ ap be (drop_of_length-le d {i = length d} (omega arith)))
    ∙ bits_none 256
  where
    none_past : (d : List ℕ) (k : ℕ) → position (λ x. not (eqb x 0)) d ≡ None → k < length d → k < position_or_len (λ x. not (eqb x 0)) d
    none_past d k e h = go (ltb (position_or_len (λ x. not (eqb x 0)) d) (length d)) refl e
      where
        go : (t : Bool) → ltb (position_or_len (λ x. not (eqb x 0)) d) (length d) ≡ t
            → ◌≡◌ {A = Option ℕ} (cond t (Some (position_or_len (λ x. not (eqb x 0)) d)) None) None → k < position_or_len (λ x. not (eqb x 0)) d
        go true q f = absurd (none-some (position_or_len (λ x. not (eqb x 0)) d) (sym f))
        go false q f = omega (arith, ltb-false _ _ q)
