-- Content keys: nine bytes, a selector and then the block number, lightest byte first. What any bytes come to as a key, the id
-- of a key, and whether a node is interested in it.
use Rattle.std.specs.Prelude.{ℕ, List, leb, eqb, length, get_or, drop}
use mathlib.Core.Bool.{Bool, cond}
use Rattle.refusal.specs.Outcome.{Outcome, given, refused, map_outcome}
use Rattle.octets.specs.Bytes.{le}
use Rattle.distance.specs.Distance.{within_of}
use Rattle.content_key.specs.Id.{id_of}

-- 0 for a block body, 1 for receipts
abbrev pub selector_of : List ℕ → ℕ
selector_of key = get_or key 0 0

-- the block number
abbrev pub block_of : List ℕ → ℕ
block_of key = le (drop 1 key)

-- any bytes as a key: 7 unless they are nine, 8 unless the selector is 0 or 1
unfoldable pub key_of : List ℕ → Outcome (List ℕ)
key_of bytes = cond (eqb (length bytes) 9) (cond (leb (selector_of bytes) 1) (given bytes) (refused 8)) (refused 7)

-- the id of a key
abbrev pub key_id : List ℕ → List ℕ
key_id key = id_of (selector_of key) (block_of key)

-- the id of any bytes as a key, or the refusal
abbrev pub content_id_of : List ℕ → Outcome (List ℕ)
content_id_of bytes = map_outcome key_id (key_of bytes)

-- whether a node with this id and radius is interested in a key: the distance is at most the radius
abbrev pub interested_in : List ℕ → List ℕ → List ℕ → Outcome Bool
interested_in node radius bytes = map_outcome (λ (key : List ℕ). within_of node (key_id key) radius) (key_of bytes)
