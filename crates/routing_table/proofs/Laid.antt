-- One value, then a list laid behind it in an array, then another behind that: the array begins with all of them. Over any element.
-- Assumes nothing.
use Prim.Native.Nat.{ℕ, ◌+◌}
use native.Mathlib.Omega.{arith}
use mathlib.Core.Path.{◌≡◌, ap, ap₂, ◌∙◌}
use mathlib.Core.List.{List, [], ◌∷◌, ◌++◌}
use lib.ListN.{length, take, drop, length-append}
use lib.Seq.{take-append_seam}

module _ {A : Type 0} (x : A) (xs ys none one two : List A) (n m : ℕ) (long : length xs ≡ n) (many : length ys ≡ m) where
  pub laid : take 1 none ≡ x ∷ [] → one ≡ take 1 none ++ xs ++ drop (1 + n) none → two ≡ take (1 + n) one ++ ys ++ drop (1 + n + m) one
      → take (1 + n + m) two ≡ x ∷ (xs ++ ys)
  laid f e g =
      let front : one ≡ (x ∷ xs) ++ drop (1 + n) none = e ∙ ap (λ (l : List A). l ++ xs ++ drop (1 + n) none) f in
      let size : 1 + n ≡ length (x ∷ xs) = omega arith in
      let first : take (1 + n) one ≡ x ∷ xs = ap₂ take size front ∙ take-append_seam (x ∷ xs) (drop (1 + n) none) in
      let both : two ≡ (x ∷ (xs ++ ys)) ++ drop (1 + n + m) one = g ∙ ap (λ (l : List A). l ++ ys ++ drop (1 + n + m) one) first in
      let all : 1 + n + m ≡ length (x ∷ (xs ++ ys)) = omega (arith, length-append xs ys) in
      ap₂ take all both ∙ take-append_seam (x ∷ (xs ++ ys)) (drop (1 + n + m) one)
