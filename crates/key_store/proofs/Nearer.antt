-- Counting the keys that are nearer: in sorted keys a search by halves finds how many, and a key at a new distance is inserted behind as many keys
-- as are nearer. Each law goes by recursion on the list. Assumes nothing.
use Prim.Native.Nat.{ℕ, zero, suc, ◌≤◌, ◌<◌}
use native.Mathlib.Omega.{arith}
use mathlib.Core.Path.{◌≡◌, refl, ap, ◌∙◌}
use mathlib.Core.Bool.{Bool, true, false, not, cond}
use mathlib.Core.List.Memᴰ.{head as here}
use mathlib.Core.List.Memᴰ.{tail as there}
use mathlib.Core.List.{List, [], ◌∷◌, ◌++◌}
use lib.Dec.{leb, ltb}
use lib.ListN.{length, get_or, take, drop}
use borrow.Author.Tests.{lt-leb, lt-ltb, le-ltb, ltb-true, ltb-false}
use Rattle.std.specs.List.Sorted.{IsPartitionedBy, IsPartitionPoint}
use Rattle.distance.proofs.Tested.{over_true, over_false}
use Rattle.nearest.specs.Sorted.{◌among◌, distances}
use Rattle.nearest.specs.Insert.{insert}
use Rattle.nearest.proofs.Insert.{insert_less, insert_more}
use Rattle.key_index.specs.Good.{away_from}
use Rattle.key_index.specs.Rules.{SortedFrom}
use Rattle.key_store.specs.Move.{nearer}

module _ (node : List ℕ) (far : ℕ) where
  -- the first key is not nearer
  nearer_here : (k : List ℕ) (ks : List (List ℕ)) → far ≤ away_from node k → nearer node far (k ∷ ks) ≡ 0
  unfolding nearer
  nearer_here k ks h = rw (le-ltb (away_from node k) far h)

  -- the first key is nearer
  nearer_later : (k : List ℕ) (ks : List (List ℕ)) → away_from node k < far → nearer node far (k ∷ ks) ≡ suc (nearer node far ks)
  unfolding nearer
  nearer_later k ks h = rw (lt-ltb (away_from node k) far h)

  -- no more than there are
  pub nearer_most : (ks : List (List ℕ)) → nearer node far ks ≤ length ks
  unfolding nearer
  nearer_most [] = omega arith
  nearer_most (k ∷ ks) = go (ltb (away_from node k) far) (nearer_most ks)
    where
      go : (t : Bool) → nearer node far ks ≤ length ks → cond t (suc (nearer node far ks)) 0 ≤ suc (length ks)
      go true h = omega arith
      go false h = omega arith

  -- a key at the end that is not nearer does not count
  pub nearer_front : (ks : List (List ℕ)) (last : List ℕ) → far ≤ away_from node last → nearer node far (ks ++ last ∷ []) ≡ nearer node far ks
  unfolding nearer
  nearer_front [] last h = nearer_here last [] h
  nearer_front (k ∷ ks) last h = ap (λ (n : ℕ). cond (ltb (away_from node k) far) (suc n) 0) (nearer_front ks last h)

-- a key at a new distance goes behind those that are nearer
pub insert_behind : (node key : List ℕ) (ks : List (List ℕ)) → ¬ (away_from node key among distances (away_from node) ks)
    → insert (away_from node) key ks
    ≡ take (nearer node (away_from node key) ks) ks ++ key ∷ drop (nearer node (away_from node key) ks) ks
unfolding nearer insert
insert_behind node key [] new = refl
insert_behind node key (k ∷ ks) new = go (ltb (away_from node k) (away_from node key)) refl (insert_behind node key ks (λ m. new (there m)))
  where
    go : (t : Bool) → ltb (away_from node k) (away_from node key) ≡ t
        → insert (away_from node) key ks ≡ take (nearer node (away_from node key) ks) ks ++ key ∷ drop (nearer node (away_from node key) ks) ks
        → insert (away_from node) key (k ∷ ks)
        ≡ take (cond t (suc (nearer node (away_from node key) ks)) 0) (k ∷ ks) ++ key ∷ drop (cond t (suc (nearer node (away_from node key) ks)) 0) (k ∷ ks)
    go true e below =
        insert_more (away_from node) key k ks (ltb-true (away_from node k) (away_from node key) e) ∙ ap (λ (l : List (List ℕ)). k ∷ l) below
    go false e below =
        let h = ltb-false (away_from node k) (away_from node key) e in
        insert_less (away_from node) key k ks (by h (λ q. new (here q)))
      where
        by : away_from node key ≤ away_from node k → ¬ (away_from node key ≡ away_from node k) → away_from node key < away_from node k
        by h n = omega arith

-- the keys before place i are nearer, and the one there is not
pub nearer_point : (node : List ℕ) (far : ℕ) (ks : List (List ℕ)) (i : ℕ) → i ≤ length ks
    → ((k : ℕ) → k < i → away_from node (get_or ks k []) < far)
    → (i < length ks → far ≤ away_from node (get_or ks i []))
    → nearer node far ks ≡ i
unfolding nearer
nearer_point node far [] i l below last = omega arith
nearer_point node far (k ∷ ks) zero l below last = nearer_here node far k ks (last (omega arith))
nearer_point node far (k ∷ ks) (suc i) l below last =
    nearer_later node far k ks (below 0 (omega arith))
    ∙ ap suc (nearer_point node far ks i (omega arith) (λ j h. below (suc j) (omega arith)) (λ h. last (omega arith)))

-- sorted keys are no nearer than the bound,
sorted_over : (node : List ℕ) (from : ℕ) (ks : List (List ℕ)) (j : ℕ) (d : List ℕ) → SortedFrom node from ks → j < length ks → from ≤ away_from node (get_or ks j d)
sorted_over node from [] j d s h = absurd (omega arith)
sorted_over node from (k ∷ ks) zero d s h = s.0
sorted_over node from (k ∷ ks) (suc j) d s h =
    let l = s.0 in
    omega (arith, sorted_over node (suc (away_from node k)) ks j d s.1 (omega arith))

-- nor than those before them
sorted_le : (node : List ℕ) (from : ℕ) (ks : List (List ℕ)) (i j : ℕ) (d : List ℕ) → SortedFrom node from ks → i ≤ j → j < length ks
    → away_from node (get_or ks i d) ≤ away_from node (get_or ks j d)
sorted_le node from [] i j d s h l = absurd (omega arith)
sorted_le node from (k ∷ ks) zero zero d s h l = omega arith
sorted_le node from (k ∷ ks) zero (suc j) d s h l = omega (arith, sorted_over node (suc (away_from node k)) ks j d s.1 (omega arith))
sorted_le node from (k ∷ ks) (suc i) zero d s h l = absurd (omega arith)
sorted_le node from (k ∷ ks) (suc i) (suc j) d s h l = sorted_le node (suc (away_from node k)) ks i j d s.1 (omega arith) (omega arith)

-- the test that the search for the place asks of a key: it is nearer
abbrev pub is_nearer : List ℕ → ℕ → List ℕ → Bool
is_nearer node far key = not (leb far (away_from node key))

-- sorted keys pass it up to some place, and none from there on
pub nearer_partitioned : (node : List ℕ) (far from : ℕ) (ks : List (List ℕ)) → SortedFrom node from ks → IsPartitionedBy (is_nearer node far) ks
nearer_partitioned node far from ks s i j d h l e =
    let b = over_true far (away_from node (get_or ks j d)) e in
    rw (lt-leb far (away_from node (get_or ks i d)) (omega (arith, sorted_le node from ks i j d s h l)))

-- and that place is how many are nearer
pub partition_nearer : (node : List ℕ) (far : ℕ) (ks : List (List ℕ)) (i : ℕ) → i ≤ length ks
    → IsPartitionPoint (λ (k : List ℕ). is_nearer node far k ≡ true) (λ (k : List ℕ). is_nearer node far k ≡ false) ks i
    → nearer node far ks ≡ i
partition_nearer node far ks i l p =
    nearer_point node far ks i l
    (λ k h. over_true far (away_from node (get_or ks k [])) (p.0 k [] (omega arith) h))
    (λ h. over_false far (away_from node (get_or ks i [])) (p.1 i [] (omega arith) h))
