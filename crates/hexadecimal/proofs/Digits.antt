-- A character and the number that it stands for.
use Prim.Native.Nat.{ℕ, ◌+◌, ◌-◌, ◌≤◌, ◌<◌}
use mathlib.Core.Bool.{Bool, true, false, cond, ◌&&◌, ◌||◌, true≢false}
use mathlib.Core.Path.{◌≡◌, refl, sym, ap, ◌∙◌}
use mathlib.Core.Logic.{◌⊎◌, inl, inr, ⊎_elim}
use native.Mathlib.Omega.{arith}
use lib.Dec.{leb, ltb}
use borrow.Author.Tests.{lt-ltb, le-ltb, le-leb, lt-leb, ltb-true, ltb-false, leb-true, leb-false}
use Rattle.hexadecimal.specs.Digits.{digit_of, value_of, is_digit, number_of}
use Rattle.std.specs.Prelude.{Some, None}

-- `0` to `9` stand for 0 to 9
pub value_of_decimal : (c : ℕ) → 48 ≤ c → c ≤ 57 → value_of c ≡ Some (c - 48)
unfolding value_of
value_of_decimal c lo hi = simp (le-leb 48 c lo, le-leb c 57 hi)

-- `a` to `f` stand for 10 to 15
pub value_of_letter : (c : ℕ) → 97 ≤ c → c ≤ 102 → value_of c ≡ Some (c - 87)
unfolding value_of
value_of_letter c lo hi =
    let big : 57 < c = omega arith in
    let low : 48 ≤ c = omega arith in
    simp (le-leb 48 c low, lt-leb c 57 big, le-leb 97 c lo, le-leb c 102 hi)

-- a number outside a range fails its test
outside : (lo hi c : ℕ) → (c < lo) ⊎ (hi < c) → (leb lo c && leb c hi) ≡ false
outside lo hi c (inl h) = simp (lt-leb lo c h)
outside lo hi c (inr h) = go (leb lo c)
  where
    go : (b : Bool) → (b && leb c hi) ≡ false
    go true = lt-leb c hi h
    go false = refl

-- other characters stand for nothing
pub value_of_other : (c : ℕ) → (c < 48) ⊎ (57 < c) → (c < 97) ⊎ (102 < c) → value_of c ≡ None
unfolding value_of
value_of_other c d l = simp (outside 48 57 c d, outside 97 102 c l)

-- the digit of a number below 16 stands for that number
pub value_of_digit : (n : ℕ) → n < 16 → value_of (digit_of n) ≡ Some n
value_of_digit n h = go (ltb n 10) refl
  where
    go : (b : Bool) → ltb n 10 ≡ b → value_of (digit_of n) ≡ Some n
    go true e =
        let small : n < 10 = ltb-true n 10 e in
        let back : 48 + n - 48 ≡ n = omega arith in
        rw e (value_of_decimal (48 + n) (omega arith) (omega arith) ∙ ap Some back)
    go false e =
        let big : 10 ≤ n = ltb-false n 10 e in
        let back : 87 + n - 87 ≡ n = omega arith in
        rw e (value_of_letter (87 + n) (omega arith) (omega arith) ∙ ap Some back)

-- a number is in a range or outside it
range : (lo hi c : ℕ) → ((lo ≤ c) × (c ≤ hi)) ⊎ ((c < lo) ⊎ (hi < c))
range lo hi c = go (leb lo c) refl (leb c hi) refl
  where
    go : (a : Bool) → leb lo c ≡ a → (b : Bool) → leb c hi ≡ b → ((lo ≤ c) × (c ≤ hi)) ⊎ ((c < lo) ⊎ (hi < c))
    go true e true f = inl (leb-true lo c e, leb-true c hi f)
    go true e false f = inr (inr (leb-false c hi f))
    go false e b f = inr (inl (leb-false lo c e))

-- a character that stands for a number is the digit of that number, which is below 16
pub digit_of_value : (c n : ℕ) → value_of c ≡ Some n → (digit_of n ≡ c) × (n < 16)
digit_of_value c n e = ⊎_elim decimal (λ d. ⊎_elim (letter d) (other d) (range 97 102 c)) (range 48 57 c)
  where
    decimal : (48 ≤ c) × (c ≤ 57) → (digit_of n ≡ c) × (n < 16)
    decimal (lo, hi) =
        let is = value_of_decimal c lo hi in
        let at : n ≡ c - 48 = cc in
        let small : n < 10 = omega arith in
        (simp (lt-ltb n 10 small) (omega arith), omega arith)

    letter : (c < 48) ⊎ (57 < c) → (97 ≤ c) × (c ≤ 102) → (digit_of n ≡ c) × (n < 16)
    letter d (lo, hi) =
        let is = value_of_letter c lo hi in
        let at : n ≡ c - 87 = cc in
        let big : 10 ≤ n = omega arith in
        (simp (le-ltb n 10 big) (omega arith), omega arith)

    other : (c < 48) ⊎ (57 < c) → (c < 97) ⊎ (102 < c) → (digit_of n ≡ c) × (n < 16)
    other d l =
        let is = value_of_other c d l in
        let clash : ◌≡◌ {A = ℕ} 0 1 = cc in
        absurd (omega arith)

-- whether a character is a digit, by its two ranges
pub digit_test : (c : ℕ) → ((leb 48 c && leb c 57) || (leb 97 c && leb c 102)) ≡ is_digit (value_of c)
unfolding value_of
digit_test c = go (leb 48 c && leb c 57) (leb 97 c && leb c 102)
  where
    go : (d l : Bool) → (d || l) ≡ is_digit (cond d (Some (c - 48)) (cond l (Some (c - 87)) None))
    go true l = refl
    go false true = refl
    go false false = refl

-- a digit is in one of them
digit_in : (c : ℕ) → is_digit (value_of c) ≡ true → ((48 ≤ c) × (c ≤ 57)) ⊎ ((97 ≤ c) × (c ≤ 102))
digit_in c e = ⊎_elim inl (λ d. ⊎_elim inr (λ l. absurd (true≢false (sym e ∙ ap is_digit (value_of_other c d l)))) (range 97 102 c)) (range 48 57 c)

-- what a digit up to `9` stands for
pub decimal_number : (c : ℕ) → is_digit (value_of c) ≡ true → c ≤ 57 → (48 ≤ c) × (number_of (value_of c) ≡ c - 48)
decimal_number c e h = ⊎_elim (λ d. (d.0, ap number_of (value_of_decimal c d.0 d.1))) (λ l. absurd (omega (arith, l.0))) (digit_in c e)

-- and what one behind it does
pub letter_number : (c : ℕ) → is_digit (value_of c) ≡ true → 57 < c → (97 ≤ c) × (c ≤ 102) × (number_of (value_of c) ≡ c - 87)
letter_number c e h =
    ⊎_elim (λ d. absurd (omega (arith, d.1))) (λ l. (l.0, l.1, ap number_of (value_of_letter c l.0 l.1))) (digit_in c e)
