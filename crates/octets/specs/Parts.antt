-- Some bytes of a list, from a place on.
use Rattle.std.specs.Prelude.{ℕ, zero, suc, List, [], ◌∷◌, get_or}

-- the n bytes from index j on; those past the end are 0
abbrev pub bytes_at : ℕ → ℕ → List ℕ → List ℕ
bytes_at zero j xs = []
bytes_at (suc n) j xs = get_or xs j 0 ∷ bytes_at n (suc j) xs
