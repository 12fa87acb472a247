-- The rules of an index (number 0 in document 01), over the limit on its keys: at most so many, each with a selector of 0 or 1, strictly
-- nearest first, each within the cap. The radius that it announces.
use Rattle.std.specs.Prelude.{ℕ, suc, Bool, true, cond, ◌&&◌, List, [], ◌∷◌, leb, ltb, length}
use Rattle.octets.specs.Bytes.{be}
use Rattle.distance.specs.Distance.{xor_of, distance_of}
use Rattle.content_key.specs.Key.{selector_of, key_id}
use Rattle.key_index.specs.View.{View}

-- a key's distance: that of its id from the node id
abbrev pub away_from : List ℕ → List ℕ → ℕ
away_from node key = distance_of node (key_id key)

-- the keys, each at a distance of at least `from` and over that of the one before, keep the rules
unfoldable pub good_from : List ℕ → ℕ → ℕ → List (List ℕ) → Bool
good_from node cap from [] = true
good_from node cap from (k ∷ ks) =
    leb (selector_of k) 1
    && leb from (away_from node k)
    && leb (away_from node k) cap
    && good_from node cap (suc (away_from node k)) ks

unfoldable pub good : ℕ → View → Bool
good limit v = leb (length v.keys) limit && good_from v.node (be v.cap) 0 v.keys

-- the last key of a list, the farthest of an index
unfoldable pub last_of : List (List ℕ) → List ℕ
last_of [] = []
last_of (k ∷ []) = k
last_of (k ∷ j ∷ ks) = last_of (j ∷ ks)

-- the announced radius, 32 bytes: the cap while fewer keys are held than the limit, else the distance of the farthest
unfoldable pub radius_of : ℕ → View → List ℕ
radius_of limit v = cond (ltb (length v.keys) limit) v.cap (xor_of v.node (key_id (last_of v.keys)))
