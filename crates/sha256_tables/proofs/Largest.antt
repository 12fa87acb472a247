-- That `root_of` finds what it should: the largest number whose power is at most x. Assumes nothing.
use Prim.Native.Nat.{ℕ, zero, suc, ◌+◌, ◌^◌, ◌<◌, ◌≤◌}
use native.Mathlib.Nat.{pow-suc, mul-zero}
use native.Mathlib.Omega.{arith}
use mathlib.Core.Path.{◌≡◌, refl, subst, ◌∙◌}
use mathlib.Core.Bool.{Bool, true, false, cond}
use lib.Dec.{leb}
use borrow.Author.Tests.{leb-true, leb-false}
use Rattle.sha256_tables.specs.Roots.{root_from, root_of}

module _ (e x : ℕ) where
  root_low : (k r : ℕ) → r ^ e ≤ x → root_from e x k r ^ e ≤ x
  unfolding root_from
  root_low zero r h = h
  root_low (suc k) r h = root_low k (cond (leb ((r + 2 ^ k) ^ e) x) (r + 2 ^ k) r) (go (leb ((r + 2 ^ k) ^ e) x) refl)
    where
      go : (t : Bool) → leb ((r + 2 ^ k) ^ e) x ≡ t → cond t (r + 2 ^ k) r ^ e ≤ x
      go true p = leb-true ((r + 2 ^ k) ^ e) x p
      go false p = h

  root_high : (k r : ℕ) → x < (r + 2 ^ k) ^ e → x < (root_from e x k r + 1) ^ e
  unfolding root_from
  root_high zero r h = h
  root_high (suc k) r h = root_high k (cond (leb ((r + 2 ^ k) ^ e) x) (r + 2 ^ k) r) (go (leb ((r + 2 ^ k) ^ e) x) refl)
    where
      go : (t : Bool) → leb ((r + 2 ^ k) ^ e) x ≡ t → x < (cond t (r + 2 ^ k) r + 2 ^ k) ^ e
      go true p =
          let twice : r + 2 ^ suc k ≡ r + 2 ^ k + 2 ^ k = omega (arith, pow-suc 2 k) in
          subst (λ (n : ℕ). x < n ^ e) twice h
      go false p = leb-false ((r + 2 ^ k) ^ e) x p

-- its power is at most x, and that of the next number is not
pub root_is : (e x : ℕ) → x < (2 ^ 36) ^ suc e → (root_of (suc e) x ^ suc e ≤ x) × (x < (root_of (suc e) x + 1) ^ suc e)
unfolding root_of
root_is e x h =
    let none : 0 ^ suc e ≡ 0 = pow-suc 0 e ∙ mul-zero (0 ^ e) in
    (root_low (suc e) x 36 0 (omega arith), root_high (suc e) x 36 0 h)
