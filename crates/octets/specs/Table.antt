-- Tables: what a function gives for each place.
use Rattle.std.specs.Prelude.{ℕ, zero, suc, List, [], ◌∷◌, map}

-- the numbers from i on, n of them
unfoldable pub numbers_from : ℕ → ℕ → List ℕ
numbers_from i zero = []
numbers_from i (suc n) = i ∷ numbers_from (suc i) n

-- the table of n entries, each what f gives for its place
abbrev pub table_of : (ℕ → ℕ) → ℕ → List ℕ
table_of f n = map f (numbers_from 0 n)
