-- Where something stands in a list, by a test for equality; how often a number does; a list without one of its places.
use Rattle.std.specs.Prelude.{ℕ, suc, Bool, not, cond, ◌&&◌, List, [], ◌∷◌, ◌++◌, eqb, take, drop, Option, Some, None}
use Rattle.octets.specs.Equal.{holds}

-- the first place of a, or the length where it is nowhere
unfoldable pub first_place : {A : Type 0} → (A → A → Bool) → A → List A → ℕ
first_place same a [] = 0
first_place same a (b ∷ bs) = cond (same a b) 0 (suc (first_place same a bs))

-- the last place of a, or the length where it is nowhere
unfoldable pub last_place : {A : Type 0} → (A → A → Bool) → A → List A → ℕ
last_place same a [] = 0
last_place same a (b ∷ bs) = cond (same a b && not (holds same a bs)) 0 (suc (last_place same a bs))

-- the same two, none where it is nowhere
abbrev pub first_of : {A : Type 0} → (A → A → Bool) → A → List A → Option ℕ
first_of same a l = cond (holds same a l) (Some (first_place same a l)) None

abbrev pub last_of : {A : Type 0} → (A → A → Bool) → A → List A → Option ℕ
last_of same a l = cond (holds same a l) (Some (last_place same a l)) None

-- how often n stands in a list
unfoldable pub count_of : ℕ → List ℕ → ℕ
count_of n [] = 0
count_of n (m ∷ ms) = cond (eqb n m) (suc (count_of n ms)) (count_of n ms)

-- the list without its place i
abbrev pub remove_at : {A : Type 0} → ℕ → List A → List A
remove_at i l = take i l ++ drop (suc i) l
