-- The law of root, proof and verdict: a proof that `proof` writes gets yes, for its record's hash and for each block number at its position of an
-- epoch that is lent with the root that `root` writes. Assumes nothing.
use Prim.Native.Nat.{ℕ, ◌+◌, ◌*◌, ◌/◌, ◌%◌, ◌<◌, ◌≤◌}
use native.Mathlib.Omega.{arith}
use mathlib.Core.Path.{◌≡◌, refl, sym, ap, ap₂, ◌∙◌}
use mathlib.Core.Bool.{Bool, true, false, cond}
use mathlib.Core.List.{List, [], ◌∷◌, ◌++◌}
use lib.Dec.{leb, ltb}
use lib.ListN.{length}
use borrow.Author.Tests.{ltb-true, lt-ltb, le-leb, eq-eqb}
use Rattle.refusal.specs.Outcome.{given, refused}
use Rattle.refusal.proofs.Outcomes.{given_not}
use Rattle.octets.proofs.Tests.{join}
use Rattle.octets.proofs.Equal.{true_same}
use Rattle.accumulator.specs.Tree.{parent, tree_node, siblings, joined, root_along}
use Rattle.accumulator.specs.Records.{are_records, record_count, hash_at, difficulty_at, record_root, count_chunk, epoch_root, epoch_proof, flat, root_of, proof_of}
use Rattle.accumulator.specs.Verdict.{chunks_of, epoch_of, hash_index, root_at, lengths_good, is_canonical, canonical_of}
use Rattle.accumulator.proofs.Trees.{root_along_lem}
use Rattle.accumulator.proofs.Chunks.{chunks_flat}
use Rattle.accumulator.proofs.Epochs.{lengths, root_there, length_hash, length_proof, whole_proof, length_flat_proof}

-- a proof that is written: the records and the position are good, and these are its bytes
record Proved (records : List ℕ) (position : ℕ) (proof : List ℕ) : Type 0 where
  pub good : are_records records ≡ true
  pub there : position < record_count records
  pub bytes : proof ≡ flat (epoch_proof records position)

module _ (records : List ℕ) (room : ℕ) where
  proved : (position : ℕ) (proof : List ℕ) → proof_of records position room ≡ given proof → Proved records position proof
  unfolding proof_of
  proved position proof = go (are_records records) refl (ltb position (record_count records)) refl (leb 480 room)
    where
      go : (a : Bool) → are_records records ≡ a → (b : Bool) → ltb position (record_count records) ≡ b → (c : Bool)
          → cond a (cond b (cond c (given (flat (epoch_proof records position))) (refused 13)) (refused 25)) (refused 24) ≡ given proof
          → Proved records position proof
      go true p true q true e = record { good = p; there = ltb-true position (record_count records) q; bytes = cc }
      go true p true q false e = given_not (sym e)
      go true p false q c e = given_not (sym e)
      go false p b q c e = given_not (sym e)

  -- a root that is written
  rooted : (root : List ℕ) → root_of records room ≡ given root → root ≡ epoch_root records
  unfolding root_of
  rooted root = go (are_records records) (leb 32 room)
    where
      go : (a b : Bool) → cond a (cond b (given (epoch_root records)) (refused 13)) (refused 24) ≡ given root → root ≡ epoch_root records
      go true true e = cc
      go true false e = given_not (sym e)
      go false b e = given_not (sym e)

-- the root computed from a record's hash and its proof is the root of the records
pub root_of_proof : (records : List ℕ) (position : ℕ) → are_records records ≡ true → position < record_count records
    → root_along (32768 + 2 * position) (hash_at records position) (epoch_proof records position) ≡ epoch_root records
unfolding root_along joined epoch_proof epoch_root tree_node
root_of_proof records position good there =
    let even : (32768 + 2 * position) % 2 ≡ 0 = omega arith in
    let most = (lengths records good).most in
    ap
    (λ (t : Bool).
    root_along ((32768 + 2 * position) / 2)
    (cond t (parent (hash_at records position) (difficulty_at records position)) (parent (difficulty_at records position) (hash_at records position)))
    (siblings (record_root records) 13 0 position ++ (count_chunk records ∷ [])))
    (eq-eqb ((32768 + 2 * position) % 2) 0 even)
    ∙ ap (λ (x : List ℕ). root_along ((32768 + 2 * position) / 2) x (siblings (record_root records) 13 0 position ++ (count_chunk records ∷ []))) (sym (root_there records position there))
    ∙ root_along_lem (record_root records) 2 13 0 position 13 (count_chunk records ∷ []) (omega (arith, most, there)) refl ((32768 + 2 * position) / 2) (omega arith)

-- the law
pub proof_gets_yes : (records proof root roots : List ℕ) (number room space : ℕ)
    → proof_of records (number % 8192) room ≡ given proof → root_of records space ≡ given root
    → length roots ≤ 65536 → length roots % 32 ≡ 0 → epoch_of number < length roots / 32 → root_at roots (epoch_of number) ≡ root
    → canonical_of number (hash_at records (number % 8192)) proof roots ≡ given true
unfolding canonical_of lengths_good is_canonical
proof_gets_yes records proof root roots number room space written wrote most whole lent is =
    let position = number % 8192 in
    let p = proved records room position proof written in
    let size : length proof ≡ 480 = ap length p.bytes ∙ length_flat_proof records position p.there in
    let cut : chunks_of 15 proof ≡ epoch_proof records position =
    ap₂ chunks_of (sym (length_proof records position)) p.bytes ∙ chunks_flat (epoch_proof records position) (whole_proof records position p.there) in
    let computed : root_along (hash_index number) (hash_at records position) (chunks_of 15 proof) ≡ root_at roots (epoch_of number) =
    ap (root_along (hash_index number) (hash_at records position)) cut
    ∙ root_of_proof records position p.good p.there
    ∙ sym (rooted records space root wrote)
    ∙ sym is in
    let good : lengths_good (hash_at records position) proof roots ≡ true =
    join _ _ (join _ _ (join _ _ (eq-eqb (length (hash_at records position)) 32 (length_hash records position p.there)) (eq-eqb (length proof) 480 size)) (le-leb (length roots) 65536 most))
    (eq-eqb (length roots % 32) 0 whole) in
    ap₂ (λ (a b : Bool). cond a (cond b (given (is_canonical number (hash_at records position) proof roots)) (refused 25)) (refused 24)) good (lt-ltb (epoch_of number) (length roots / 32) lent)
    ∙ ap given (true_same (root_along (hash_index number) (hash_at records position) (chunks_of 15 proof)) (root_at roots (epoch_of number)) computed)
