-- A key taken out of a sorted list: xs ++ k ∷ ys without k is xs ++ ys. That the others are there and the list is shorter by one is
-- `among_middle`, `middle_among` and `length_middle`. Assumes nothing.
use Prim.Native.Nat.{ℕ, suc, ◌≤◌}
use native.Mathlib.Omega.{arith}
use mathlib.Core.Path.{◌≡◌, ap, ◌∙◌}
use mathlib.Core.List.Memᴰ
use mathlib.Core.List.Memᴰ.{head as here}
use mathlib.Core.List.Memᴰ.{tail as there}
use mathlib.Core.List.{List, [], ◌∷◌, ◌++◌}
use Rattle.nearest.specs.Sorted.{◌among◌, SortedFrom, distances}
use Rattle.nearest.specs.Insert.{insert}
use Rattle.nearest.proofs.Lists.{middle_self}
use Rattle.nearest.proofs.Sorted.{sorted_down, sorted_least}
use Rattle.nearest.proofs.Insert.{insert_first, insert_more}

module _ {K : Type 0} (dist : K → ℕ) where
  -- a sorted list with a key taken out is sorted
  pub sorted_without : (b : ℕ) (xs : List K) (k : K) (ys : List K) → SortedFrom dist b (xs ++ k ∷ ys) → SortedFrom dist b (xs ++ ys)
  sorted_without b [] k ys s = sorted_down dist b (suc (dist k)) ys (omega arith) s.1
  sorted_without b (x ∷ xs) k ys s = (s.0, sorted_without (suc (dist x)) xs k ys s.1)

  -- the key taken out was at a distance that no other key has
  pub without_gone : (b : ℕ) (xs : List K) (k : K) (ys : List K) → SortedFrom dist b (xs ++ k ∷ ys)
      → ¬ (dist k among distances dist (xs ++ ys))
  without_gone b [] k ys s m = let h : suc (dist k) ≤ dist k = sorted_least dist (suc (dist k)) ys s.1 m in omega arith
  without_gone b (x ∷ xs) k ys s (here e) =
      let h : suc (dist x) ≤ dist k = sorted_least dist (suc (dist x)) (xs ++ k ∷ ys) s.1 (Memᴰ.map dist (middle_self xs k ys)) in
      omega arith
  without_gone b (x ∷ xs) k ys s (there m) = without_gone (suc (dist x)) xs k ys s.1 m

  -- and inserted again, it gives the old list
  pub insert_back : (b : ℕ) (xs : List K) (k : K) (ys : List K) → SortedFrom dist b (xs ++ k ∷ ys) → insert dist k (xs ++ ys) ≡ xs ++ k ∷ ys
  insert_back b [] k ys s = insert_first dist k ys s.1
  insert_back b (x ∷ xs) k ys s =
      insert_more dist k x (xs ++ ys) (sorted_least dist (suc (dist x)) (xs ++ k ∷ ys) s.1 (Memᴰ.map dist (middle_self xs k ys)))
      ∙ ap (λ (l : List K). x ∷ l) (insert_back (suc (dist x)) xs k ys s.1)
