-- Offers to a list that has room or is full. A full list is written with its last key, the farthest, apart: xs ++ far ∷ []. Assumes nothing.
use Prim.Native.Nat.{ℕ, suc, ◌≤◌, ◌<◌}
use native.Mathlib.Nat.{le_of_lt}
use native.Mathlib.Omega.{arith}
use mathlib.Core.Path.{◌≡◌, refl, sym, ap, subst, ◌∙◌}
use mathlib.Core.Logic.{◌↔◌, ⊎_elim}
use mathlib.Core.List.Memᴰ
use mathlib.Core.List.Memᴰ.{head as here}
use mathlib.Core.List.Memᴰ.{tail as there}
use mathlib.Core.List.{List, [], ◌∷◌, ◌++◌, append-nil}
use lib.ListN.{length, take}
use lib.Seq.{take_all, take_at}
use Rattle.nearest.specs.Sorted.{◌among◌, SortedFrom, Sorted, distances}
use Rattle.nearest.specs.Insert.{insert, offer}
use Rattle.nearest.proofs.Order.{Order, less, same, more, order, put_by, placed_by}
use Rattle.nearest.proofs.Lists.{middle_self, length_middle}
use Rattle.nearest.proofs.Sorted.{sorted_last, distances_front}
use Rattle.nearest.proofs.Insert.{insert_held, insert_length, insert_enters, insert_only, insert_stays, insert_more, insert_less}

module _ {K : Type 0} (dist : K → ℕ) (k : K) where
  -- at a distance that the list has, an offer changes nothing
  pub offer_held : (n : ℕ) (l : List K) → Sorted dist l → length l ≤ n → dist k among distances dist l → offer dist n k l ≡ l
  offer_held n l s h m = ap (λ (r : List K). take n r) (insert_held dist k 0 l s m) ∙ take_all n l h

  -- below the limit a new key is inserted, and nothing leaves
  pub offer_room : (n : ℕ) (l : List K) → length l < n → ¬ (dist k among distances dist l) → offer dist n k l ≡ insert dist k l
  offer_room n l h new = take_all n (insert dist k l) (omega (arith, insert_length dist k l new))

  far_unchanged : (b : ℕ) (xs : List K) (far : K) → SortedFrom dist b (xs ++ far ∷ []) → dist far ≤ dist k
      → offer dist (length (xs ++ far ∷ [])) k (xs ++ far ∷ []) ≡ xs ++ far ∷ []
  unfolding insert
  far_unchanged b [] far s h = rw (placed_by (order (dist k) (dist far)) k far [] (k ∷ [])) (by (order (dist k) (dist far)))
    where
      by : (o : Order (dist k) (dist far)) → take 1 (put_by o k far [] (k ∷ [])) ≡ far ∷ []
      by (less g) = absurd (omega arith)
      by (same e) = refl
      by (more g) = refl
  far_unchanged b (x ∷ xs) far s h =
      let g : dist x < dist far = sorted_last dist b (x ∷ xs) far s (here refl) in
      ap (λ (l : List K). take (suc (length (xs ++ far ∷ []))) l) (insert_more dist k x (xs ++ far ∷ []) (omega arith))
      ∙ ap (λ (l : List K). x ∷ l) (far_unchanged (suc (dist x)) xs far s.1 h)

  near_placed : (b : ℕ) (xs : List K) (far : K) → SortedFrom dist b (xs ++ far ∷ []) → dist k < dist far → ¬ (dist k among distances dist xs)
      → offer dist (length (xs ++ far ∷ [])) k (xs ++ far ∷ []) ≡ insert dist k xs
  unfolding insert
  near_placed b [] far s h new = ap (λ (l : List K). take 1 l) (insert_less dist k far [] h)
  near_placed b (x ∷ xs) far s h new =
      rw (
        placed_by (order (dist k) (dist x)) k x (xs ++ far ∷ []) (insert dist k (xs ++ far ∷ [])),
        placed_by (order (dist k) (dist x)) k x xs (insert dist k xs),
      )
      (by (order (dist k) (dist x)) (near_placed (suc (dist x)) xs far s.1 h (λ m. new (there m))))
    where
      by : (o : Order (dist k) (dist x)) → offer dist (length (xs ++ far ∷ [])) k (xs ++ far ∷ []) ≡ insert dist k xs
          → take (suc (length (xs ++ far ∷ []))) (put_by o k x (xs ++ far ∷ []) (insert dist k (xs ++ far ∷ [])))
          ≡ put_by o k x xs (insert dist k xs)
      by (less g) rest =
          ap (λ (l : List K). k ∷ l) (take_at (x ∷ xs) (far ∷ []) (length (xs ++ far ∷ []))
          (sym (length_middle xs far [] ∙ ap suc (ap length (append-nil xs)))))
      by (same e) rest = absurd (new (here e))
      by (more g) rest = ap (λ (l : List K). x ∷ l) rest

  -- a full list of n keys, of which far is the last
  module _ (n : ℕ) (l xs : List K) (far : K) (s : Sorted dist l) (full : length l ≡ n) (last : l ≡ xs ++ far ∷ []) where
    -- an offer that is not nearer than the last changes nothing
    pub offer_far : dist far ≤ dist k → offer dist n k l ≡ l
    offer_far h =
        subst (λ (m : ℕ). offer dist m k l ≡ l) full
        (subst (λ (r : List K). offer dist (length r) k r ≡ r) (sym last) (far_unchanged 0 xs far (rw last at s) h))

    module _ (new : ¬ (dist k among distances dist l)) where
      front_new : ¬ (dist k among distances dist xs)
      front_new m = new (rw last (distances_front dist xs (far ∷ []) m))

      -- one that is nearer, at a new distance, is inserted among the others, and the last leaves
      pub offer_near : dist k < dist far → offer dist n k l ≡ insert dist k xs
      offer_near h =
          subst (λ (m : ℕ). offer dist m k l ≡ insert dist k xs) full
          (subst (λ (r : List K). offer dist (length r) k r ≡ insert dist k xs) (sym last) (near_placed 0 xs far (rw last at s) h front_new))

      -- and the list stays full
      pub offer_length : dist k < dist far → length (offer dist n k l) ≡ n
      offer_length h =
          ap length (offer_near h) ∙ insert_length dist k xs front_new ∙ ap (λ (r : List K). suc (length r)) (sym (append-nil xs))
          ∙ sym (length_middle xs far []) ∙ ap length (sym last) ∙ full

      -- so it enters exactly when it is nearer than the last
      pub offer_enters : (k among offer dist n k l) ↔ (dist k < dist far)
      offer_enters = (λ m. by m (order (dist k) (dist far)), λ h. rw (offer_near h) (insert_enters dist k xs front_new))
        where
          by : k among offer dist n k l → Order (dist k) (dist far) → dist k < dist far
          by m (less h) = h
          by m (same e) = let i : far among l = rw last (middle_self xs far []) in absurd (new (Memᴰ.cast e (Memᴰ.map dist i)))
          by m (more h) = absurd (new (Memᴰ.map dist (rw (offer_far (le_of_lt h)) at m)))

      -- and then exactly the last leaves
      pub offer_leaves : dist k < dist far → (j : K) → j among l → (¬ (j among offer dist n k l)) ↔ (j ≡ far)
      offer_leaves h j m = rw (offer_near h) (
        λ out. ⊎_elim (λ i. absurd (out (insert_stays dist k xs i))) Memᴰ.eq_of_singleton (Memᴰ.append_cases xs (rw last at m)),
        λ e i. ⊎_elim (λ u. omega (arith, ap dist (sym e ∙ u)))
            (λ u. omega (arith, sorted_last dist 0 xs far (rw last at s) u, ap dist e)) (insert_only dist k xs i),
      )
