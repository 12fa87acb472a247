-- An epoch accumulator, SSZ's `List[HeaderRecord, 8192]`: its root, the proof of each position, and what the calls on lent records answer.
use Rattle.std.specs.Prelude.{ℕ, ◌*◌, ◌/◌, ◌%◌, Bool, cond, ◌&&◌, List, [], ◌∷◌, ◌++◌, eqb, leb, ltb, length, take, drop}
use Rattle.refusal.specs.Outcome.{Outcome, given, refused}
use Rattle.octets.specs.Bytes.{le_bytes}
use Rattle.accumulator.specs.Tree.{parent, zero_chunk, tree_node, siblings}

-- the bytes are 1 to 8,192 records of 64 bytes
unfoldable pub are_records : List ℕ → Bool
are_records records = leb 64 (length records) && leb (length records) 524288 && eqb (length records % 64) 0

-- how many records
abbrev pub record_count : List ℕ → ℕ
record_count records = length records / 64

-- the record at a position: the block hash, and then the total difficulty, lightest byte first
abbrev pub record_at : List ℕ → ℕ → List ℕ
record_at records position = take 64 (drop (64 * position) records)

abbrev pub hash_at : List ℕ → ℕ → List ℕ
hash_at records position = take 32 (record_at records position)

abbrev pub difficulty_at : List ℕ → ℕ → List ℕ
difficulty_at records position = drop 32 (record_at records position)

-- the root of the record at a position, and a zero chunk behind the last
unfoldable pub record_root : List ℕ → ℕ → List ℕ
record_root records position =
    cond (ltb position (record_count records)) (parent (hash_at records position) (difficulty_at records position)) zero_chunk

-- the number of records as a chunk
abbrev pub count_chunk : List ℕ → List ℕ
count_chunk records = le_bytes 32 (record_count records)

-- the root: of a tree over 8,192 records' roots, with the number of records mixed in
unfoldable pub epoch_root : List ℕ → List ℕ
epoch_root records = parent (tree_node (record_root records) 13 0) (count_chunk records)

-- the proof of a position: the 15 siblings of the block hash there and of the nodes above it
unfoldable pub epoch_proof : List ℕ → ℕ → List (List ℕ)
epoch_proof records position = difficulty_at records position ∷ siblings (record_root records) 13 0 position ++ (count_chunk records ∷ [])

-- chunks, one behind the other
unfoldable pub flat : List (List ℕ) → List ℕ
flat [] = []
flat (chunk ∷ chunks) = chunk ++ flat chunks

-- what `root` writes into a buffer of this length, or its refusal: 24, 13
unfoldable pub root_of : List ℕ → ℕ → Outcome (List ℕ)
root_of records room = cond (are_records records) (cond (leb 32 room) (given (epoch_root records)) (refused 13)) (refused 24)

-- what `proof` writes into a buffer of this length, or its refusal: 24, 25, 13
unfoldable pub proof_of : List ℕ → ℕ → ℕ → Outcome (List ℕ)
proof_of records position room =
    cond (are_records records)
    (cond (ltb position (record_count records)) (cond (leb 480 room) (given (flat (epoch_proof records position))) (refused 13)) (refused 25))
    (refused 24)
