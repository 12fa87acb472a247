-- Membership in lists. Assumes nothing.
use Prim.Native.Nat.{ℕ, zero, suc, ◌<◌}
use native.Mathlib.Decide.{ℕ_discrete}
use native.Mathlib.Omega.{arith}
use mathlib.Core.Path.{◌≡◌, refl, ap}
use mathlib.Core.Logic.{◌⊎◌, inl, inr, ⊎_elim}
use mathlib.Core.List.Memᴰ
use mathlib.Core.List.Memᴰ.{head as here}
use mathlib.Core.List.Memᴰ.{tail as there}
use mathlib.Core.List.{List, [], ◌∷◌, ◌++◌}
use lib.ListN.{length, take}
use Rattle.nearest.specs.Sorted.{◌among◌}

-- whether a number is in a list is decided
pub among? : (d : ℕ) (l : List ℕ) → Dec (d among l)
among? d [] = no Memᴰ.not-nil
among? d (e ∷ l) = by (ℕ_discrete d e) (among? d l)
  where
    by : Dec (d ≡ e) → Dec (d among l) → Dec (d among (e ∷ l))
    by (yes p) q = yes (here p)
    by (no p) (yes q) = yes (there q)
    by (no p) (no q) = no (λ m. ⊎_elim p q (Memᴰ.cases_cons m))

module _ {K : Type 0} where
  -- what is in a list's front is in the list
  pub among_take : {k : K} (n : ℕ) (l : List K) → k among take n l → k among l
  among_take zero l m = absurd (Memᴰ.not-nil m)
  among_take (suc n) [] m = absurd (Memᴰ.not-nil m)
  among_take (suc n) (j ∷ js) (here e) = here e
  among_take (suc n) (j ∷ js) (there m) = there (among_take n js m)

  -- what is in a list that has j in the middle is j or one of the others
  pub among_middle : {k : K} (xs : List K) (j : K) (ys : List K) → k among (xs ++ j ∷ ys) → (k ≡ j) ⊎ (k among (xs ++ ys))
  among_middle [] j ys m = Memᴰ.cases_cons m
  among_middle (x ∷ xs) j ys (here e) = inr (here e)
  among_middle (x ∷ xs) j ys (there m) = ⊎_elim inl (λ r. inr (there r)) (among_middle xs j ys m)

  -- each of the others is in the list
  pub middle_among : {k : K} (xs : List K) (j : K) (ys : List K) → k among (xs ++ ys) → k among (xs ++ j ∷ ys)
  middle_among [] j ys m = there m
  middle_among (x ∷ xs) j ys (here e) = here e
  middle_among (x ∷ xs) j ys (there m) = there (middle_among xs j ys m)

  -- and so is j
  pub middle_self : (xs : List K) (j : K) (ys : List K) → j among (xs ++ j ∷ ys)
  middle_self [] j ys = here refl
  middle_self (x ∷ xs) j ys = there (middle_self xs j ys)

  -- j counts for one
  pub length_middle : (xs : List K) (j : K) (ys : List K) → length (xs ++ j ∷ ys) ≡ suc (length (xs ++ ys))
  length_middle [] j ys = refl
  length_middle (x ∷ xs) j ys = ap suc (length_middle xs j ys)

  -- a key that is in a list stands at some place of it
  pub among_split : {k : K} (l : List K) → k among l → (xs : List K) × (ys : List K) × (l ≡ xs ++ k ∷ ys)
  among_split [] m = absurd (Memᴰ.not-nil m)
  among_split (j ∷ js) (here e) = ([], js, rw e)
  among_split {k} (j ∷ js) (there m) = let r = among_split js m in (j ∷ r.0, r.1, ap (λ (l : List K). j ∷ l) r.2)

  -- a list with a key has a last one
  pub last_split : (l : List K) → 0 < length l → (xs : List K) × (far : K) × (l ≡ xs ++ far ∷ [])
  last_split [] h = absurd (omega arith)
  last_split (j ∷ []) h = ([], j, refl)
  last_split (j ∷ i ∷ js) h =
      let r = last_split (i ∷ js) (omega arith) in
      (j ∷ r.0, r.1, ap (λ (l : List K). j ∷ l) r.2)
