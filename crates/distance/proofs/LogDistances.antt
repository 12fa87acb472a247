-- Laws on the log distance of two ids, from those on bit lengths. An id is 32 bytes, so a distance has 256 bits at most. Assumes nothing.
use Prim.Native.Nat.{ℕ, suc, ◌*◌, ◌-◌, ◌^◌, ◌≤◌, ◌<◌}
use native.Mathlib.Nat.{suc_inj, eq-zero-or-pos}
use mathlib.Core.Path.{◌≡◌, sym, ap, ◌∙◌, subst}
use mathlib.Core.Logic.{◌↔◌, inl, inr, ◌⊎◌}
use mathlib.Core.List.{List}
use lib.ListN.{length}
use Rattle.octets.specs.Bytes.{Bytes}
use Rattle.distance.specs.Distance.{xor_of, distance_of, bit_length, log_distance_of}
use Rattle.distance.specs.Before.{log_before}
use Rattle.distance.proofs.Exclusive.{xor_of_length, xor_of_bytes, distance_self, distance_zero}
use Rattle.distance.proofs.BitLength.{bits_low, bits_high, bits_none, bits_zero, bits_most, bits_rounded, be_bits}

module _ (a b : List ℕ) (la : length a ≡ 32) (lb : length b ≡ 32) (ba : Bytes a) (bb : Bytes b) where
  -- the distance has at most 256 bits
  few : distance_of a b < 2 ^ 256
  few =
      subst (λ (n : ℕ). distance_of a b < 2 ^ (8 * n)) (xor_of_length a b (la ∙ sym lb) ∙ la)
      (be_bits (xor_of a b) (xor_of_bytes a b ba bb))

  -- different ids are apart
  apart : (a ≡ b → ⊥) → 0 < distance_of a b
  apart n = go (eq-zero-or-pos (distance_of a b))
    where
      go : (distance_of a b ≡ 0) ⊎ (0 < distance_of a b) → 0 < distance_of a b
      go (inl e) = absurd (n (distance_zero a b (la ∙ sym lb) ba bb e))
      go (inr h) = h

  -- it is 0 exactly for equal ids
  pub log_zero : (log_distance_of a b ≡ 0) ↔ (a ≡ b)
  log_zero = (
    (λ e. distance_zero a b (la ∙ sym lb) ba bb (bits_zero 256 (distance_of a b) few e)),
    (λ e. ap (bit_length 256) (ap (distance_of a) (sym e) ∙ distance_self a) ∙ bits_none 256),
  )

  -- for others the distance is at least the power of one less
  pub log_low : (a ≡ b → ⊥) → 2 ^ (log_distance_of a b - 1) ≤ distance_of a b
  log_low n = bits_low 256 (distance_of a b) (apart n) few

  -- the distance is below its power
  pub log_high : distance_of a b < 2 ^ log_distance_of a b
  log_high = bits_high 256 (distance_of a b) few

  -- it is one more than before for different ids
  pub log_more : (a ≡ b → ⊥) → log_distance_of a b ≡ suc (log_before a b)
  log_more n = bits_rounded 256 (distance_of a b) (apart n) few

-- it is at most 256
pub log_most : (a b : List ℕ) → log_distance_of a b ≤ 256
log_most a b = bits_most 256 (distance_of a b)

-- two ids other than ours share a log distance exactly when they did before
pub log_shared : (own a b : List ℕ) → length own ≡ 32 → length a ≡ 32 → length b ≡ 32 → Bytes own → Bytes a → Bytes b
    → (own ≡ a → ⊥) → (own ≡ b → ⊥) → (log_distance_of own a ≡ log_distance_of own b) ↔ (log_before own a ≡ log_before own b)
log_shared own a b lo la lb bo ba bb na nb =
    let ea = log_more own a lo la bo ba na in
    let eb = log_more own b lo lb bo bb nb in
    ((λ e. suc_inj (sym ea ∙ e ∙ eb)), (λ e. ea ∙ ap suc e ∙ sym eb))
