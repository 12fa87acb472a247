-- The reversal of bits: its range, the reversal of a number of several parts, that it is injective, and that reversing the bits of a
-- run of bytes reverses each byte and takes them the other way round.
-- Assumes nothing.
use mathlib.Core.Path.{◌≡◌, refl, sym, ◌∙◌, ap}
use mathlib.Core.List.{List, [], ◌∷◌, map}
use Prim.Native.Nat.{ℕ, zero, suc, ◌+◌, ◌*◌, ◌/◌, ◌%◌, ◌^◌, ◌<◌}
use native.Mathlib.Nat.{mul_assoc, add-mul, zero-mul, zero-add, suc-add, pow-succ', div-one, div-div-eq-div-mul, add-mul-div_left, add-mul-mod_self_left}
use native.Mathlib.Omega.{arith}
use lib.Arith.{digits_lt, digits_div, digits_mod}
use lib.Pow.{pow-add}
use lib.ListN.{length, length-map}
use Rattle.octets.specs.Bytes.{Bytes, be, le}
use Rattle.content_key.specs.Id.{reverse_bits}

-- k reversed bits are below 2 ^ k
pub reverse_lt : (k n : ℕ) → reverse_bits k n < 2 ^ k
unfolding reverse_bits
reverse_lt zero n = omega arith
reverse_lt (suc k) n =
    let h : n % 2 * 2 ^ k + reverse_bits k (n / 2) < 2 * 2 ^ k = digits_lt (omega arith) (reverse_lt k (n / 2)) in
    rw pow-succ' h

-- the reversal of a + b bits is that of the a lower ones, and then that of the others
pub reverse_add : (a b n : ℕ) → reverse_bits (a + b) n ≡ reverse_bits a n * 2 ^ b + reverse_bits b (n / 2 ^ a)
unfolding reverse_bits
reverse_add zero b n = rw (zero-add b, zero-mul (2 ^ b), div-one n, zero-add (reverse_bits b n))
reverse_add (suc a) b n =
    rw (suc-add, reverse_add a b (n / 2), pow-add 2 a b, add-mul (n % 2 * 2 ^ a) (reverse_bits a (n / 2)) (2 ^ b), div-div-eq-div-mul n 2 (2 ^ a), mul_assoc (n % 2) (2 ^ a) (2 ^ b), pow-succ' 2 a)
    (omega arith)

-- bits above the lowest k make no difference
pub reverse_low : (k x y : ℕ) → reverse_bits k (x + 2 ^ k * y) ≡ reverse_bits k x
unfolding reverse_bits
reverse_low zero x y = refl
reverse_low (suc k) x y =
    let e : 2 ^ suc k * y ≡ 2 * (2 ^ k * y) = rw (pow-succ', mul_assoc) in
    let m : (x + 2 * (2 ^ k * y)) % 2 ≡ x % 2 = add-mul-mod_self_left x 2 (2 ^ k * y) in
    let d : (x + 2 * (2 ^ k * y)) / 2 ≡ x / 2 + 2 ^ k * y = add-mul-div_left x (2 ^ k * y) (omega arith) in
    rw (e, m, d, reverse_low k (x / 2) y)

-- different numbers of k bits have different reversals
pub reverse_inj : (k m n : ℕ) → m < 2 ^ k → n < 2 ^ k → reverse_bits k m ≡ reverse_bits k n → m ≡ n
unfolding reverse_bits
reverse_inj zero m n hm hn e = omega arith
reverse_inj (suc k) m n hm hn e =
    let qm = digits_div (m % 2) (reverse_lt k (m / 2)) in
    let qn = digits_div (n % 2) (reverse_lt k (n / 2)) in
    let rm = digits_mod (m % 2) (reverse_lt k (m / 2)) in
    let rn = digits_mod (n % 2) (reverse_lt k (n / 2)) in
    let q : m % 2 ≡ n % 2 = sym qm ∙ ap (λ (x : ℕ). x / 2 ^ k) e ∙ qn in
    let r : reverse_bits k (m / 2) ≡ reverse_bits k (n / 2) = sym rm ∙ ap (λ (x : ℕ). x % 2 ^ k) e ∙ rn in
    let p : 2 ^ suc k ≡ 2 * 2 ^ k = pow-succ' 2 k in
    let h : m / 2 ≡ n / 2 = reverse_inj k (m / 2) (n / 2) (omega arith) (omega arith) r in
    omega arith

-- the reversal of 0 is 0
pub reverse_zero : (k : ℕ) → reverse_bits k 0 ≡ 0
unfolding reverse_bits
reverse_zero zero = refl
reverse_zero (suc k) = rw (reverse_zero k, zero-mul (2 ^ k))

-- the number of bits in a run of bytes
abbrev pub bits : List ℕ → ℕ
bits [] = 0
bits (x ∷ xs) = 8 + bits xs

pub bits_pow : (xs : List ℕ) → 2 ^ bits xs ≡ 256 ^ length xs
bits_pow [] = refl
bits_pow (x ∷ xs) = rw (pow-add 2 8 (bits xs), bits_pow xs, pow-succ' 256 (length xs))

reverse_none : (n : ℕ) → reverse_bits 0 n ≡ 0
unfolding reverse_bits
reverse_none n = refl

-- reversing the bits of bytes that stand lightest first gives each byte reversed, heaviest first
pub reverse_bytes : (xs : List ℕ) → Bytes xs → reverse_bits (bits xs) (le xs) ≡ be (map (reverse_bits 8) xs)
unfolding le be
reverse_bytes [] h = reverse_none 0
reverse_bytes (x ∷ xs) h =
    let low : reverse_bits 8 (x + 256 * le xs) ≡ reverse_bits 8 x = reverse_low 8 x (le xs) in
    let rest : (x + 256 * le xs) / 256 ≡ le xs = omega (arith, h.0) in
    let all : reverse_bits (8 + bits xs) (x + 256 * le xs) ≡ reverse_bits 8 (x + 256 * le xs) * 2 ^ bits xs + reverse_bits (bits xs) ((x + 256 * le xs) / 256) = reverse_add 8 (bits xs) (x + 256 * le xs) in
    all ∙ rw (low, rest, bits_pow xs, reverse_bytes xs h.1, length-map xs (reverse_bits 8))
