-- An array that `array::from_fn` made, by a closure that changes nothing: the element at each place is what the closure gives for it.
-- Assumes nothing.
use Prim.Native.Nat.{ℕ, zero, suc, ◌+◌, ◌<◌, ◌≤◌}
use native.Mathlib.Decide.{dec_lt}
use native.Mathlib.Omega.{arith}
use mathlib.Core.Path.{◌≡◌, ◌∙◌, subst}
use mathlib.Core.List.{List}
use lib.ListN.{get_or}
use denote.Param.Members.{Mut, Called}
use Rattle.std.specs.Array.{IsFromFnResult, IsFromFnResultFrom}

module _ {F B : Type 0} (g : Mut F (ℕ × Unit {0}) B) (f : F) (h : ℕ → B) (ys : List B) where
  made_from : (i n : ℕ) → ((k : ℕ) (y : B) (q : F) → k < i + n → Called g f (k, tt) y q → (q ≡ f) × (y ≡ h k))
      → IsFromFnResultFrom g f ys i n → (k : ℕ) (d : B) → i ≤ k → k < i + n → get_or ys k d ≡ h k
  made_from i zero gives calls k d low high = absurd (omega arith)
  made_from i (suc n) gives (q, y, at, call, more) k d low high =
      go (dec_lt i k)
      (λ l.
      made_from (i + 1) n (λ j z r m. gives j z r (omega arith))
      (subst (λ (p : F). IsFromFnResultFrom g p ys (i + 1) n) (gives i y q (omega arith) call).0 more) k d (omega arith) (omega arith))
    where
      go : Dec (i < k) → (i < k → get_or ys k d ≡ h k) → get_or ys k d ≡ h k
      go (yes l) later = later l
      go (no l) later =
          let same : i ≡ k = omega arith in
          subst (λ (j : ℕ). get_or ys j d ≡ h j) same (at.1 d ∙ (gives i y q (omega arith) call).1)

  -- the element at each place
  pub made_at : (n : ℕ) → ((k : ℕ) (y : B) (q : F) → k < n → Called g f (k, tt) y q → (q ≡ f) × (y ≡ h k))
      → IsFromFnResult g f ys n → (k : ℕ) (d : B) → k < n → get_or ys k d ≡ h k
  made_at n gives made k d small = made_from 0 n (λ j y q l. gives j y q (omega arith)) made.each k d (omega arith) (omega arith)
