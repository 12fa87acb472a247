-- Answers by what they mean: one that is true where a number is at most another, and false where it is over it, is their test.
-- Assumes nothing.
use Prim.Native.Nat.{ℕ, ◌≤◌, ◌<◌}
use mathlib.Core.Path.{◌≡◌, refl, sym}
use mathlib.Core.Bool.{Bool, true, false, not}
use lib.Dec.{leb}
use borrow.Author.Tests.{le-leb, lt-leb, leb-true, leb-false, not-true, not-false}

pub most_is : (x y : ℕ) (b : Bool) → (b ≡ true → x ≤ y) → (b ≡ false → y < x) → b ≡ leb x y
most_is x y true inside outside = sym (le-leb x y (inside refl))
most_is x y false inside outside = sym (lt-leb x y (outside refl))

-- the test turned round
pub over_true : (a b : ℕ) → not (leb a b) ≡ true → b < a
over_true a b e = leb-false a b (not-true (leb a b) e)

pub over_false : (a b : ℕ) → not (leb a b) ≡ false → a ≤ b
over_false a b e = leb-true a b (not-false (leb a b) e)
