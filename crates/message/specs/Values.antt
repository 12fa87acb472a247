-- The nine messages as values (document 01, "The nine messages").
use Rattle.std.specs.Prelude.{ℕ, ◌<◌, ◌≡◌, List, [], ◌∷◌, length}
use Rattle.octets.specs.Bytes.{Bytes}

-- A radius is 32 bytes, heaviest first; a connection id is four bytes as they stand; distances, keys, records and content are bytes.
pub data Message : Type 0 where
  ping : (radius : List ℕ) → Message
  pong : (radius : List ℕ) → Message
  find_node : (distances : List ℕ) → Message
  found_nodes : (total : ℕ) (records : List (List ℕ)) → Message
  find_content : (key : List ℕ) → Message
  found_content : (connection : List ℕ) (records : List (List ℕ)) (content : List ℕ) → Message
  offer : (key : List ℕ) → Message
  accept : (key : List ℕ) → Message
  store : (connection content : List ℕ) → Message

-- n bytes
abbrev pub Sized : ℕ → List ℕ → Type 0
Sized n bytes = Bytes bytes × (length bytes ≡ n)

-- every record is bytes
abbrev pub AllBytes : List (List ℕ) → Type 0
AllBytes [] = Unit {0}
AllBytes (r ∷ rs) = Bytes r × AllBytes rs

-- the values are of their types: bytes, and as many as the type has
abbrev pub Formed : Message → Type 0
Formed (ping radius) = Sized 32 radius
Formed (pong radius) = Sized 32 radius
Formed (find_node distances) = Bytes distances
Formed (found_nodes total records) = (total < 256) × AllBytes records
Formed (find_content key) = Bytes key
Formed (found_content connection records content) = Sized 4 connection × (AllBytes records × Bytes content)
Formed (offer key) = Bytes key
Formed (accept key) = Bytes key
Formed (store connection content) = Sized 4 connection × Bytes content
