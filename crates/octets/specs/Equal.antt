-- Equality of byte strings, and what is in a list.
use Rattle.std.specs.Prelude.{ℕ, Bool, true, false, not, ◌&&◌, ◌||◌, List, [], ◌∷◌, eqb}

-- equal byte for byte
unfoldable pub same_bytes : List ℕ → List ℕ → Bool
same_bytes [] [] = true
same_bytes [] (y ∷ ys) = false
same_bytes (x ∷ xs) [] = false
same_bytes (x ∷ xs) (y ∷ ys) = eqb x y && same_bytes xs ys

-- some element of the list is the one looked for, by a test for equality
unfoldable pub holds : {A : Type 0} → (A → A → Bool) → A → List A → Bool
holds same a [] = false
holds same a (b ∷ bs) = same a b || holds same a bs

-- no two elements are equal
unfoldable pub all_different : {A : Type 0} → (A → A → Bool) → List A → Bool
all_different same [] = true
all_different same (a ∷ bs) = not (holds same a bs) && all_different same bs
