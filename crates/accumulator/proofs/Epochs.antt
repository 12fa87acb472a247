-- Records of an epoch: their parts and how long they are, what a root and a proof are made of, and how long those are. Assumes nothing.
use Prim.Native.Nat.{ℕ, suc, ◌+◌, ◌*◌, ◌%◌, ◌<◌, ◌≤◌}
use native.Mathlib.Omega.{arith}
use mathlib.Core.Path.{◌≡◌, sym, ap, ◌∙◌}
use mathlib.Core.Bool.{Bool, true, false, cond, ◌&&◌}
use mathlib.Core.List.{List, [], ◌∷◌}
use lib.Dec.{eqb, leb, ltb}
use lib.ListN.{length, take, drop, length-append, length-drop, length-replicate, take-append-drop}
use lib.Seq.{length-take-le, take-add, drop_at, drop-drop}
use borrow.Author.Tests.{eqb-true, leb-true, lt-ltb, le-ltb}
use Rattle.octets.specs.Parts.{bytes_at}
use Rattle.octets.proofs.Tests.{both}
use Rattle.octets.proofs.Parts.{bytes_at_part}
use Rattle.octets.proofs.Numbers.{le_bytes_length}
use Rattle.sha256.specs.Hash.{sha256}
use Rattle.accumulator.specs.Tree.{parent, zero_chunk, tree_node, siblings}
use Rattle.accumulator.specs.Records.{are_records, record_count, record_at, hash_at, difficulty_at, record_root, count_chunk, epoch_root, epoch_proof, flat}
use Rattle.accumulator.proofs.Trees.{length_parent}
use Rattle.accumulator.proofs.Chunks.{Whole, whole_append, whole_siblings, length_siblings, length_flat}

-- bytes that are records: at least one, at most 8,192, none of them cut
pub record Lengths (n : ℕ) : Type 0 where
  pub some : 64 ≤ n
  pub most : n ≤ 524288
  pub whole : n % 64 ≡ 0

module _ (records : List ℕ) where
  pub lengths : are_records records ≡ true → Lengths (length records)
  unfolding are_records
  lengths e =
      let n = length records in
      let outer = both (leb 64 n && leb n 524288) (eqb (n % 64) 0) e in
      let inner = both (leb 64 n) (leb n 524288) outer.0 in
      record { some = leb-true 64 n inner.0; most = leb-true n 524288 inner.1; whole = eqb-true (n % 64) 0 outer.1 }

  -- behind the last record stand zeros
  pub root_behind : (position : ℕ) → record_count records ≤ position → record_root records position ≡ zero_chunk
  unfolding record_root
  root_behind position h =
      ap (λ (t : Bool). cond t (parent (hash_at records position) (difficulty_at records position)) zero_chunk) (le-ltb position (record_count records) h)

  module _ (position : ℕ) (there : position < record_count records) where
    -- a record's root is the node over its halves
    pub root_there : record_root records position ≡ parent (hash_at records position) (difficulty_at records position)
    unfolding record_root
    root_there =
        ap (λ (t : Bool). cond t (parent (hash_at records position) (difficulty_at records position)) zero_chunk) (lt-ltb position (record_count records) there)

    -- which is the hash of the record
    pub root_hash : record_root records position ≡ sha256 (record_at records position)
    unfolding parent
    root_hash = root_there ∙ ap sha256 (take-append-drop 32 (record_at records position))

    length_record : length (record_at records position) ≡ 64
    length_record = length-take-le 64 (drop (64 * position) records) (omega (arith, length-drop (64 * position) records, there))

    pub length_hash : length (hash_at records position) ≡ 32
    length_hash = length-take-le 32 (record_at records position) (omega (arith, length_record))

    pub length_difficulty : length (difficulty_at records position) ≡ 32
    length_difficulty = omega (arith, length-drop 32 (record_at records position), length_record)

    -- the total difficulty, as the code reads it
    pub difficulty_read : (made : List ℕ) (at : ℕ) → made ≡ bytes_at 32 at records → at ≡ 64 * position + 32 → made ≡ difficulty_at records position
    difficulty_read made at is e =
        let from = drop (64 * position) records in
        let rest = length-drop (64 * position) records in
        is
        ∙ ap (λ (k : ℕ). bytes_at 32 k records) e
        ∙ bytes_at_part 32 (64 * position + 32) records (omega (arith, there))
        ∙ sym
        (ap (drop 32) (take-add 32 32 from)
        ∙ drop_at (take 32 from) (take 32 (drop 32 from)) 32 (length-take-le 32 from (omega (arith, rest, there)))
        ∙ ap (take 32) (drop-drop 32 (64 * position) records))

  -- each leaf of the tree has 32 bytes
  pub length_root : (position : ℕ) → length (record_root records position) ≡ 32
  unfolding record_root
  length_root position = go (ltb position (record_count records))
    where
      go : (t : Bool) → length (cond t (parent (hash_at records position) (difficulty_at records position)) zero_chunk) ≡ 32
      go true = length_parent (hash_at records position) (difficulty_at records position)
      go false = let z : ℕ = 0 in length-replicate 32 z

  -- the root has 32 bytes
  pub length_epoch : length (epoch_root records) ≡ 32
  unfolding epoch_root
  length_epoch = length_parent (tree_node (record_root records) 13 0) (count_chunk records)

  -- a proof has 15 siblings of 32 bytes
  pub length_proof : (position : ℕ) → length (epoch_proof records position) ≡ 15
  unfolding epoch_proof
  length_proof position =
      ap suc (length-append (siblings (record_root records) 13 0 position) (count_chunk records ∷ []) ∙ ap (λ (n : ℕ). n + 1) (length_siblings (record_root records) 13 0 position))

  pub whole_proof : (position : ℕ) → position < record_count records → Whole (epoch_proof records position)
  unfolding epoch_proof
  whole_proof position there = (
    length_difficulty position there,
    whole_append (siblings (record_root records) 13 0 position) (count_chunk records ∷ [])
        (whole_siblings (record_root records) length_root 13 0 position)
        (le_bytes_length 32 (record_count records), tt),
  )

  pub length_flat_proof : (position : ℕ) → position < record_count records → length (flat (epoch_proof records position)) ≡ 480
  length_flat_proof position there =
      omega (arith, length_flat (epoch_proof records position) (whole_proof position there), length_proof position)
