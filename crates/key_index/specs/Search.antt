-- Where a key stands in a list of keys: the first place that has its bytes.
use Rattle.std.specs.Prelude.{ℕ, suc, cond, List, [], ◌∷◌, Option, Some, None}
use Rattle.octets.specs.Equal.{same_bytes}

-- with the places counted from i
unfoldable pub place_from : ℕ → List ℕ → List (List ℕ) → Option ℕ
place_from i key [] = None
place_from i key (k ∷ ks) = cond (same_bytes key k) (Some i) (place_from (suc i) key ks)

abbrev pub place_of : List ℕ → List (List ℕ) → Option ℕ
place_of key keys = place_from 0 key keys
