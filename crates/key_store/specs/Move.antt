-- What the steps of storing do: how many held keys are nearer, and a key written into a flat array at its place.
use Rattle.std.specs.Prelude.{ℕ, suc, ◌-◌, ◌*◌, cond, List, [], ◌∷◌, ◌++◌, ltb, take, drop}
use Rattle.key_index.specs.Good.{away_from}

-- how many keys are nearer than a distance, up to the first that is not
unfoldable pub nearer : List ℕ → ℕ → List (List ℕ) → ℕ
nearer node far [] = 0
nearer node far (k ∷ ks) = cond (ltb (away_from node k) far) (suc (nearer node far ks)) 0

-- the keys at the places `from` up to `to` moved up by one, and the key written at `from`
unfoldable pub key_at_place : ℕ → ℕ → List ℕ → List ℕ → List ℕ
key_at_place from to key bytes =
    take (9 * from) bytes ++ (key ++ (take (9 * (to - from)) (drop (9 * from) bytes) ++ drop (9 * suc to) bytes))
