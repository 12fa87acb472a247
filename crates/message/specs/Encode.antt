-- The bytes of a message: a type byte and the SSZ container.
use Rattle.std.specs.Prelude.{ℕ, ◌+◌, ◌*◌, List, [], ◌∷◌, ◌++◌, reverse, length}
use Rattle.octets.specs.Bytes.{le_bytes}
use Rattle.message.specs.Values.{Message, ping, pong, find_node, found_nodes, find_content, found_content, offer, accept, store}

-- an offset: four bytes, lightest first
abbrev pub offset : ℕ → List ℕ
offset n = le_bytes 4 n

-- one offset for each record, where the first record starts at a place
unfoldable pub offsets_from : ℕ → List (List ℕ) → List ℕ
offsets_from at [] = []
offsets_from at (r ∷ rs) = offset at ++ offsets_from (at + length r) rs

-- the records one after the other
unfoldable pub joined : List (List ℕ) → List ℕ
joined [] = []
joined (r ∷ rs) = r ++ joined rs

-- a list of records: their offsets from the list's start, then the records; nothing for no records
abbrev pub list_bytes : List (List ℕ) → List ℕ
list_bytes rs = offsets_from (4 * length rs) rs ++ joined rs

unfoldable pub encode : Message → List ℕ
encode (ping radius) = 1 ∷ reverse radius
encode (pong radius) = 2 ∷ reverse radius
encode (find_node distances) = 3 ∷ (offset 4 ++ distances)
encode (found_nodes total records) = 4 ∷ total ∷ (offset 5 ++ list_bytes records)
encode (find_content key) = 5 ∷ (offset 4 ++ key)
encode (found_content connection records content) =
    6 ∷ (connection ++ offset 12 ++ offset (12 + length (list_bytes records)) ++ list_bytes records ++ content)
encode (offer key) = 7 ∷ (offset 4 ++ key)
encode (accept key) = 8 ∷ (offset 4 ++ key)
encode (store connection content) = 9 ∷ (connection ++ offset 8 ++ content)
