-- The id of a key byte by byte: the two lightest bytes of the number, heavier one first, then the six others, lightest first, each
-- reversed, as the definition has it and as the table has it. Assumes nothing.
use mathlib.Core.Path.{◌≡◌, refl, sym, ◌∙◌, ap, subst⁻¹}
use mathlib.Core.List.{List, [], ◌∷◌, ◌++◌, map}
use Prim.Native.Nat.{ℕ, ◌+◌, ◌*◌, ◌/◌, ◌%◌, ◌<◌}
use native.Mathlib.Omega.{arith}
use lib.ListN.{length, length-map, replicate, get_or}
use Rattle.octets.specs.Bytes.{Bytes, le, be_bytes}
use Rattle.octets.proofs.Numbers.{be_bytes_be, bytes_drop, bytes_at_lem}
use Rattle.content_key.specs.Id.{reverse_bits, id_of}
use Rattle.content_key.specs.Key.{key_id}
use Rattle.octets.specs.Parts.{bytes_at}
use Rattle.octets.specs.Table.{table_of}
use Rattle.octets.proofs.Parts.{bytes_at_rest}
use Rattle.octets.proofs.Tables.{bytes_through}
use Rattle.content_key.proofs.Reversal.{reverse_lt, reverse_bytes, bits}

-- two bytes of a number
be_bytes_two : (a b : ℕ) → a < 256 → b < 256 → be_bytes 2 (a + 256 * b) ≡ b ∷ a ∷ []
unfolding be_bytes
be_bytes_two a b ha hb =
    let low : (a + 256 * b) % 256 ≡ a = omega arith in
    let high : (a + 256 * b) / 256 ≡ b = omega arith in
    let byte : b % 256 ≡ b = omega arith in
    rw (low, high, byte)

bytes_reversed : (xs : List ℕ) → Bytes (map (reverse_bits 8) xs)
bytes_reversed [] = tt
bytes_reversed (x ∷ xs) = (reverse_lt 8 x, bytes_reversed xs)

-- six bytes of a number whose bits are reversed
be_bytes_reversed : (xs : List ℕ) → Bytes xs → be_bytes (length xs) (reverse_bits (bits xs) (le xs)) ≡ map (reverse_bits 8) xs
be_bytes_reversed xs h =
    rw (reverse_bytes xs h, ← length-map xs (reverse_bits 8)) (be_bytes_be (map (reverse_bits 8) xs) (bytes_reversed xs))

bits_six : (xs : List ℕ) → length xs ≡ 6 → bits xs ≡ 48
bits_six xs h = bits_length xs ∙ omega arith
  where
    bits_length : (xs : List ℕ) → bits xs ≡ 8 * length xs
    bits_length [] = refl
    bits_length (x ∷ xs) = omega (arith, bits_length xs)

-- the id of the number whose bytes are a, b and then xs, lightest first
pub id_bytes : (s a b : ℕ) (xs : List ℕ) → a < 256 → b < 256 → Bytes xs → length xs ≡ 6
    → id_of s (a + 256 * (b + 256 * le xs)) ≡ b ∷ a ∷ (map (reverse_bits 8) xs ++ replicate 23 0 ++ (s ∷ []))
unfolding id_of
id_bytes s a b xs ha hb hx h =
    let low : (a + 256 * (b + 256 * le xs)) % 65536 ≡ a + 256 * b = omega arith in
    let high : (a + 256 * (b + 256 * le xs)) / 65536 ≡ le xs = omega arith in
    let six : be_bytes 6 (reverse_bits 48 (le xs)) ≡ map (reverse_bits 8) xs = rw (← bits_six xs h, ← h) (be_bytes_reversed xs hx) in
    rw (low, high, be_bytes_two a b ha hb, six)

module _ (key : List ℕ) where
  -- the bytes of a key's id, with these six in the middle
  abbrev around : List ℕ → List ℕ
  around six = get_or key 2 0 ∷ get_or key 1 0 ∷ (six ++ replicate 23 0 ++ (get_or key 0 0 ∷ []))

  module _ (h : Bytes key) (n : length key ≡ 9) where
    six_bytes : Bytes (bytes_at 6 3 key)
    six_bytes = subst⁻¹ Bytes (bytes_at_rest 6 3 key (omega arith)) (bytes_drop 3 key h)

    -- the id of a key of nine bytes, byte by byte
    id_listing : key_id key ≡ around (map (reverse_bits 8) (bytes_at 6 3 key))
    unfolding le
    id_listing =
        ap (λ (l : List ℕ). id_of (get_or key 0 0) (le l)) (sym (bytes_at_rest 8 1 key (omega arith)))
        ∙ id_bytes (get_or key 0 0) (get_or key 1 0) (get_or key 2 0) (bytes_at 6 3 key) (bytes_at_lem key h 1) (bytes_at_lem key h 2) six_bytes refl

    -- the same, the six bytes looked up in the table of reversed bytes
    pub id_through : (table : List ℕ) → table ≡ table_of (reverse_bits 8) 256 → around (map (λ (b : ℕ). get_or table b 0) (bytes_at 6 3 key)) ≡ key_id key
    unfolding reverse_bits
    id_through table e =
        ap around
        (ap (λ (t : List ℕ). map (λ (b : ℕ). get_or t b 0) (bytes_at 6 3 key)) e ∙ bytes_through (reverse_bits 8) (bytes_at 6 3 key) six_bytes)
        ∙ sym id_listing
