-- Laws of content ids: 32 bytes; the number that they stand for, by quotient, remainder and reversed bits, and by document 002's own
-- formula; different keys have different ids; consecutive block numbers have different first two bytes.
-- Assumes nothing.
use mathlib.Core.Path.{◌≡◌, sym, ◌∙◌, ap, ap₂}
use mathlib.Core.List.{List, [], ◌∷◌, ◌++◌, append_assoc}
use Prim.Native.Nat.{ℕ, ◌+◌, ◌*◌, ◌/◌, ◌%◌, ◌^◌, ◌<◌}
use native.Mathlib.Nat.{add-zero, mul-one, mul_assoc, add-mul, lt_of_lt_of_le, mul-lt-mul_of_pos_right}
use native.Mathlib.Omega.{arith}
use lib.Arith.{digits_div, digits_mod}
use lib.Dec.{lit≤}
use lib.Pow.{pow_pos}
use lib.Bits.{bit_or, or_shifted}
use lib.ListN.{length, length-append, replicate, take}
use lib.Seq.{take_at}
use Rattle.octets.specs.Bytes.{Bytes, be, le, be_bytes}
use Rattle.octets.proofs.Numbers.{bytes_append, bytes_replicate, be_append, be_zeros, be_be_bytes_below, be_bytes_length, be_bytes_bytes, le_lt, le_inj}
use Rattle.content_key.specs.Id.{reverse_bits, id_of}
use Rattle.content_key.specs.Key.{key_id}
use Rattle.content_key.proofs.Reversal.{reverse_lt, reverse_add, reverse_inj, reverse_zero}

-- the shape of the sum, over the powers, which are too long for `omega`
shape : (a r s p q : ℕ) → ((a * p + r) * q + 0) * 256 + (s * 1 + 0) ≡ (a * p + r) * (q * 256) + s
shape a r s p q = simp (add-zero, mul-one, mul_assoc)

spread : (a r p q : ℕ) → (a * p + r) * q ≡ a * (p * q) + r * q
spread a r p q = simp (add-mul, mul_assoc)

module _ (s n : ℕ) where
  pub id_length : length (id_of s n) ≡ 32
  unfolding id_of
  id_length =
      simp (length-append, be_bytes_length)

  pub id_bytes_ok : s < 256 → Bytes (id_of s n)
  unfolding id_of
  id_bytes_ok h =
      bytes_append (be_bytes 2 (n % 65536) ++ be_bytes 6 (reverse_bits 48 (n / 65536)) ++ replicate 23 0) (s ∷ [])
      (bytes_append (be_bytes 2 (n % 65536) ++ be_bytes 6 (reverse_bits 48 (n / 65536))) (replicate 23 0)
      (bytes_append (be_bytes 2 (n % 65536)) (be_bytes 6 (reverse_bits 48 (n / 65536))) (be_bytes_bytes 2 (n % 65536)) (be_bytes_bytes 6 (reverse_bits 48 (n / 65536))))
      (bytes_replicate 23 0 (omega arith)))
      (h, tt)

  -- the id as a number: the remainder by 65,536 in its top 16 bits, then the quotient's 48 bits reversed, and the selector
  pub id_number : be (id_of s n) ≡ n % 65536 * 2 ^ 240 + reverse_bits 48 (n / 65536) * 2 ^ 192 + s
  unfolding id_of be
  id_number =
      let a = n % 65536 in
      let r = reverse_bits 48 (n / 65536) in
      let ha : be (be_bytes 2 a) ≡ a = be_be_bytes_below 2 a (omega arith) in
      let hr : be (be_bytes 6 r) ≡ r = be_be_bytes_below 6 r (reverse_lt 48 (n / 65536)) in
      rw (
        be_append (be_bytes 2 a ++ be_bytes 6 r ++ replicate 23 0) (s ∷ []),
        be_append (be_bytes 2 a ++ be_bytes 6 r) (replicate 23 0),
        be_append (be_bytes 2 a) (be_bytes 6 r),
        ha,
        hr,
        be_bytes_length 6 r,
        be_zeros 23,
      )
      (shape a r s (2 ^ 48) (256 ^ 23) ∙ ap (λ (x : ℕ). x + s) (spread a r (2 ^ 48) (2 ^ 192)))

  -- the number's quotient has 48 bits, so reversing 240 bits puts them 192 places higher
  reverse_240 : n < 2 ^ 64 → reverse_bits 240 (n / 65536) ≡ reverse_bits 48 (n / 65536) * 2 ^ 192
  reverse_240 h =
      let q : n / 65536 / 2 ^ 48 ≡ 0 = omega arith in
      reverse_add 48 192 (n / 65536)
      ∙ rw (q, reverse_zero 192, add-zero (reverse_bits 48 (n / 65536) * 2 ^ 192))

  -- document 002's own formula: the cycle bits shifted by 240, or the reversed 240 offset bits, or the content type
  pub id_formula : s < 256 → n < 2 ^ 64 → be (id_of s n) ≡ bit_or (bit_or (n % 2 ^ 16 * 2 ^ 240) (reverse_bits 240 (n / 2 ^ 16))) s
  id_formula hs hn =
      let a = n % 65536 in
      let r = reverse_bits 48 (n / 65536) in
      let hr : r < 2 ^ 48 = reverse_lt 48 (n / 65536) in
      let sum : (a * 2 ^ 48 + r) * 2 ^ 192 ≡ a * 2 ^ 240 + r * 2 ^ 192 = spread a r (2 ^ 48) (2 ^ 192) in
      let low : s < 2 ^ 192 = lt_of_lt_of_le hs (lit≤ tt) in
      let inner : bit_or (a * 2 ^ 240) (r * 2 ^ 192) ≡ a * 2 ^ 240 + r * 2 ^ 192 = or_shifted a 240 (r * 2 ^ 192) (mul-lt-mul_of_pos_right hr (pow_pos 192)) in
      let outer : bit_or ((a * 2 ^ 48 + r) * 2 ^ 192) s ≡ (a * 2 ^ 48 + r) * 2 ^ 192 + s = or_shifted (a * 2 ^ 48 + r) 192 s low in
      id_number ∙ sym (ap (λ (x : ℕ). bit_or (bit_or (a * 2 ^ 240) x) s) (reverse_240 hn) ∙ ap (λ (x : ℕ). bit_or x s) (inner ∙ sym sum) ∙ outer ∙ ap (λ (x : ℕ). x + s) sum)

halves : (s n : ℕ) → (n % 65536 * 2 ^ 48 + reverse_bits 48 (n / 65536)) * 2 ^ 192 + s ≡ be (id_of s n)
halves s n = ap (λ (x : ℕ). x + s) (spread (n % 65536) (reverse_bits 48 (n / 65536)) (2 ^ 48) (2 ^ 192)) ∙ sym (id_number s n)

top : {s : ℕ} → s < 256 → s < 2 ^ 192
top h = lt_of_lt_of_le h (lit≤ tt)

-- different selectors or numbers have different ids
pub id_inj : (s t m n : ℕ) → s < 256 → t < 256 → m < 2 ^ 64 → n < 2 ^ 64 → id_of s m ≡ id_of t n → (s ≡ t) × (m ≡ n)
id_inj s t m n hs ht hm hn e =
    let rm = reverse_lt 48 (m / 65536) in
    let rn = reverse_lt 48 (n / 65536) in
    let a : ℕ → ℕ = λ k. k % 65536 * 2 ^ 48 + reverse_bits 48 (k / 65536) in
    let b : a m * 2 ^ 192 + s ≡ a n * 2 ^ 192 + t = halves s m ∙ ap be e ∙ sym (halves t n) in
    let h : a m ≡ a n = sym (digits_div (a m) (top hs)) ∙ ap (λ (x : ℕ). x / 2 ^ 192) b ∙ digits_div (a n) (top ht) in
    let l : s ≡ t = sym (digits_mod (a m) (top hs)) ∙ ap (λ (x : ℕ). x % 2 ^ 192) b ∙ digits_mod (a n) (top ht) in
    let r : reverse_bits 48 (m / 65536) ≡ reverse_bits 48 (n / 65536) = omega arith in
    let q : m / 65536 ≡ n / 65536 = reverse_inj 48 (m / 65536) (n / 65536) (omega arith) (omega arith) r in
    (l, omega arith)

-- different keys have different ids
pub key_id_inj : (j k : List ℕ) → Bytes j → Bytes k → length j ≡ 9 → length k ≡ 9 → key_id j ≡ key_id k → j ≡ k
key_id_inj [] k hj hk lj lk e = absurd (omega arith)
key_id_inj (x ∷ xs) [] hj hk lj lk e = absurd (omega arith)
key_id_inj (x ∷ xs) (y ∷ ys) hj hk lj lk e =
    let hx = le_lt xs hj.1 in
    let hy = le_lt ys hk.1 in
    let nx : length xs ≡ 8 = omega arith in
    let ny : length ys ≡ 8 = omega arith in
    let p = id_inj x y (le xs) (le ys) hj.0 hk.0 (rw nx at hx) (rw ny at hy) e in
    ap₂ (λ (z : ℕ) (zs : List ℕ). z ∷ zs) p.0 (le_inj xs ys (omega arith) hj.1 hk.1 p.1)

-- the first two bytes stand for the remainder by 65,536
pub first_two : (s n : ℕ) → n % 65536 ≡ be (take 2 (id_of s n))
unfolding id_of
first_two s n =
    let m = n % 65536 in
    let six = be_bytes 6 (reverse_bits 48 (n / 65536)) in
    let two : take 2 (id_of s n) ≡ be_bytes 2 m = rw
    (append_assoc (be_bytes 2 m ++ six) (replicate 23 0) (s ∷ []), append_assoc (be_bytes 2 m) six (replicate 23 0 ++ (s ∷ [])))
    (take_at (be_bytes 2 m) (six ++ (replicate 23 0 ++ (s ∷ []))) 2 (be_bytes_length 2 m)) in
    sym (ap be two ∙ be_be_bytes_below 2 m (omega arith))

-- any 65,536 consecutive block numbers, those that do not pass the largest among them, have different first two bytes
pub consecutive : (s t start i j : ℕ) → i < 65536 → j < 65536 → take 2 (id_of s (start + i)) ≡ take 2 (id_of t (start + j)) → i ≡ j
consecutive s t start i j hi hj e =
    let m : (start + i) % 65536 ≡ (start + j) % 65536 = first_two s (start + i) ∙ ap be e ∙ sym (first_two t (start + j)) in
    omega arith
