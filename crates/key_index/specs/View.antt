-- The index as a caller may think of it: its node id, its cap and the keys held, in order ("shelf" and "ceiling" in document 01). Bytes
-- in unused places are no part of it.
use Rattle.std.specs.Prelude.{ℕ, zero, suc, ◌*◌, cond, List, [], ◌∷◌, leb, length, take, drop, replicate}
use Rattle.key_index.specs.declared.KeyIndex.{KeyIndex}

-- how many keys an index lists at most
abbrev pub key_limit : ℕ
key_limit = 3000

pub record View : Type 0 where
  pub node : List ℕ
  pub cap : List ℕ
  pub keys : List (List ℕ)

-- the first n keys of a flat array, nine bytes each
unfoldable pub chunks : ℕ → List ℕ → List (List ℕ)
chunks zero bytes = []
chunks (suc n) bytes = take 9 bytes ∷ chunks n (drop 9 bytes)

-- the key at place i of a flat array, and zeros where the array does not have all its nine bytes
unfoldable pub key_at : List ℕ → ℕ → List ℕ
key_at bytes i = cond (leb (9 * suc i) (length bytes)) (take 9 (drop (9 * i) bytes)) (replicate 9 0)

-- the view of an index with these parts, its keys the first `count` of a flat array
abbrev pub view_of : List ℕ → List ℕ → List ℕ → ℕ → View
view_of node cap bytes count = record { node = node; cap = cap; keys = chunks count bytes }

abbrev pub view : KeyIndex → View
view index = view_of index.node index.cap index.keys index.count

-- a fresh index: no keys
abbrev pub fresh_of : List ℕ → List ℕ → View
fresh_of node cap = record { node = node; cap = cap; keys = [] }

-- the view with other keys
abbrev pub with_keys : View → List (List ℕ) → View
with_keys v keys = record { node = v.node; cap = v.cap; keys = keys }
