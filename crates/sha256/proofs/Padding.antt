-- The padded message: how long it is, that it is whole blocks, that its last eight bytes are the length in bits, and each of its blocks.
-- Assumes nothing.
use Prim.Native.Nat.{ℕ, suc, ◌+◌, ◌-◌, ◌*◌, ◌/◌, ◌%◌, ◌^◌, ◌<◌, ◌≤◌}
use native.Mathlib.Decide.{dec_lt}
use native.Mathlib.Omega.{arith}
use mathlib.Core.Path.{◌≡◌, sym, ap, ap₂, ◌∙◌}
use mathlib.Core.List.{List, [], ◌∷◌, ◌++◌, append_assoc}
use lib.ListN.{length, take, drop, replicate, length-append, length-drop, length-replicate, replicate-append-replicate}
use lib.Seq.{take_all, take_at, drop_at, take-append-le, drop-append-le, drop-drop}
use Rattle.octets.specs.Bytes.{be, be_bytes}
use Rattle.octets.proofs.Numbers.{be_bytes_length, be_be_bytes_below}
use Rattle.sha256.specs.Hash.{zeros_of, pad, block_at}
use Rattle.sha256.specs.Ends.{rest, begun}

module _ (n : ℕ) where
  -- with fewer than 56 bytes in the last block the length still fits there
  zeros_one : n % 64 < 56 → zeros_of n ≡ 55 - n % 64
  unfolding zeros_of
  zeros_one h = omega arith

  -- else it ends the block behind it
  zeros_two : 56 ≤ n % 64 → zeros_of n ≡ 63 - n % 64 + 56
  unfolding zeros_of
  zeros_two h = omega arith

  -- there are fewer than a block has bytes, so the padding is as short as it can be
  pub zeros_below : zeros_of n < 64
  unfolding zeros_of
  zeros_below = omega arith

module _ (m : List ℕ) where
  abbrev count : List ℕ
  count = be_bytes 8 (8 * length m)

  abbrev zeros : List ℕ
  zeros = replicate (zeros_of (length m)) 0

  -- what stands behind the message
  tail : List ℕ
  tail = (128 ∷ []) ++ zeros ++ count

  pad_is : pad m ≡ m ++ tail
  unfolding pad tail
  pad_is = simp append_assoc

  pub pad_length : length (pad m) ≡ length m + 1 + zeros_of (length m) + 8
  unfolding pad
  pad_length =
      simp (length-append, length-replicate) (omega (arith, be_bytes_length 8 (8 * length m)))

  pub blocks_one : length m % 64 < 56 → length (pad m) / 64 ≡ suc (length m / 64)
  blocks_one h = omega (arith, pad_length, zeros_one (length m) h)

  pub blocks_two : 56 ≤ length m % 64 → length (pad m) / 64 ≡ suc (suc (length m / 64))
  blocks_two h = omega (arith, pad_length, zeros_two (length m) h)

  -- the padded message is a whole number of blocks
  pub pad_whole : length (pad m) % 64 ≡ 0
  pad_whole = go (dec_lt (length m % 64) 56)
    where
      go : Dec (length m % 64 < 56) → length (pad m) % 64 ≡ 0
      go (yes h) = omega (arith, pad_length, zeros_one (length m) h)
      go (no h) = omega (arith, pad_length, zeros_two (length m) (omega arith))

  -- its last eight bytes are the message's length in bits, for all messages that FIPS 180-4 takes
  pub pad_counts : length m < 2 ^ 61 → be (drop (length (pad m) - 8) (pad m)) ≡ 8 * length m
  unfolding pad
  pad_counts h =
      ap be (drop_at (m ++ (128 ∷ []) ++ zeros) count (length (pad m) - 8)
      (omega (arith, length-append (m ++ (128 ∷ []) ++ zeros) count, be_bytes_length 8 (8 * length m))))
      ∙ be_be_bytes_below 8 (8 * length m) (omega arith)

  -- a block that the message fills
  pub block_inside : (k : ℕ) → 64 * k + 64 ≤ length m → block_at (pad m) k ≡ take 64 (drop (64 * k) m)
  unfolding block_at
  block_inside k h =
      ap (λ (l : List ℕ). take 64 (drop (64 * k) l)) pad_is
      ∙ ap (take 64) (drop-append-le (64 * k) m tail (omega arith))
      ∙ take-append-le 64 (drop (64 * k) m) tail (omega (arith, length-drop (64 * k) m))

  pub rest_length : length (rest m) ≡ length m % 64
  rest_length = omega (arith, length-drop (length m / 64 * 64) m)

  begun_length : length (begun m) ≡ 64
  begun_length = simp (length-append, length-replicate) (omega (arith, rest_length))

  -- from that block on
  from_rest : drop (64 * (length m / 64)) (pad m) ≡ rest m ++ (128 ∷ []) ++ zeros ++ count
  unfolding tail
  from_rest =
      let e : 64 * (length m / 64) ≡ length m / 64 * 64 = omega arith in
      ap₂ (λ (k : ℕ) (l : List ℕ). drop k l) e pad_is
      ∙ drop-append-le (length m / 64 * 64) m tail (omega arith)
      ∙ simp append_assoc

  -- the last block, where the length fits into it
  pub block_last : length m % 64 < 56 → take 56 (begun m) ++ count ≡ block_at (pad m) (length m / 64)
  unfolding block_at
  block_last h =
      let z = zeros_one (length m) h in
      let e : 63 - length m % 64 ≡ zeros_of (length m) + 8 = omega arith in
      let p = rest m ++ (128 ∷ []) ++ zeros in
      let long : length p ≡ 56 = simp (length-append, length-replicate) (omega (arith, rest_length)) in
      ap (λ (l : List ℕ). take 56 l ++ count)
      (ap (λ (k : ℕ). rest m ++ (128 ∷ []) ++ replicate k 0) e
      ∙ ap (λ (l : List ℕ). rest m ++ (128 ∷ []) ++ l) (sym (replicate-append-replicate (zeros_of (length m)) 8 0))
      ∙ sym (append_assoc (rest m ++ (128 ∷ [])) zeros (replicate 8 0)))
      ∙ ap (λ (l : List ℕ). l ++ count) (take_at p (replicate 8 0) 56 long)
      ∙ sym (take_all 64 (p ++ count) (omega (arith, length-append p count, be_bytes_length 8 (8 * length m))))
      ∙ ap (take 64) (sym from_rest)

  module _ (h : 56 ≤ length m % 64) where
    -- else it begins there, and ends with zeros and the length in the block behind it
    two_rest : drop (64 * (length m / 64)) (pad m) ≡ begun m ++ (replicate 56 0 ++ count)
    two_rest =
        from_rest
        ∙ ap (λ (k : ℕ). rest m ++ (128 ∷ []) ++ replicate k 0 ++ count) (zeros_two (length m) h)
        ∙ ap (λ (l : List ℕ). rest m ++ (128 ∷ []) ++ l ++ count) (sym (replicate-append-replicate (63 - length m % 64) 56 0))
        ∙ simp append_assoc

    pub block_begun : begun m ≡ block_at (pad m) (length m / 64)
    unfolding block_at
    block_begun = sym (ap (take 64) two_rest ∙ take_at (begun m) (replicate 56 0 ++ count) 64 begun_length)

    pub block_ended : replicate 56 0 ++ count ≡ block_at (pad m) (suc (length m / 64))
    unfolding block_at
    block_ended =
        let k = length m / 64 in
        let e : 64 * k + 64 ≡ 64 * suc k = omega arith in
        let q = replicate 56 0 ++ count in
        sym
        (ap (λ (j : ℕ). take 64 (drop j (pad m))) (sym e)
        ∙ ap (take 64) (sym (drop-drop 64 (64 * k) (pad m)) ∙ ap (drop 64) two_rest ∙ drop_at (begun m) q 64 begun_length)
        ∙ take_all 64 q (omega (arith, length-append (replicate 56 0) count, be_bytes_length 8 (8 * length m))))
