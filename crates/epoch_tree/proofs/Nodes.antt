-- The nodes of an epoch's tree as the code goes down to them, and the number of records as bytes. Assumes nothing.
use Prim.Native.Nat.{ℕ, zero, suc, ◌+◌, ◌*◌, ◌-◌, ◌/◌, ◌%◌, ◌^◌, ◌<◌}
use native.Mathlib.Numerals.{add-one}
use native.Mathlib.Omega.{arith}
use mathlib.Core.Path.{◌≡◌, refl, sym, ap, ap₂, ◌∙◌}
use mathlib.Core.List.{List, [], ◌∷◌}
use lib.ListN.{length, get_or, replicate}
use Rattle.std.specs.Simd.{first_chunks}
use Rattle.octets.proofs.Parts.{chunk_at}
use Rattle.octets.specs.Bytes.{le_bytes}
use Rattle.sha256.specs.Hash.{sha256}
use Rattle.accumulator.specs.Tree.{parent, tree_node, empty_node, beside, siblings}
use Rattle.accumulator.specs.Records.{record_root, count_chunk, epoch_root}
use Rattle.accumulator.proofs.Trees.{node_empty}
use Rattle.accumulator.proofs.Epochs.{root_behind, root_hash}

module _ (leaf : ℕ → List ℕ) where
  -- at height 0 stands a leaf
  pub node_leaf : (height place : ℕ) → height ≡ 0 → leaf place ≡ tree_node leaf height place
  unfolding tree_node
  node_leaf height place e = sym (ap (λ (h : ℕ). tree_node leaf h place) e)

  -- higher up, the node over the two right below
  pub node_over : (height place : ℕ) → (height ≡ 0 → ⊥) → (left right : List ℕ)
      → left ≡ tree_node leaf (height - 1) (2 * place) → right ≡ tree_node leaf (height - 1) (2 * place + 1) → parent left right ≡ tree_node leaf height place
  unfolding tree_node
  node_over zero place high left right e f = absurd (high refl)
  node_over (suc height) place high left right e f =
      let less : suc height - 1 ≡ height = omega arith in
      ap₂ parent (e ∙ ap (λ (h : ℕ). tree_node leaf h (2 * place)) less) (f ∙ ap (λ (h : ℕ). tree_node leaf h (2 * place + 1)) less)

  -- the siblings that are left below height 13: the one of this node, and those of the nodes above
  pub siblings_next : (height place : ℕ) → height < 13
      → siblings leaf (13 - height) height place ≡ tree_node leaf height (beside place) ∷ siblings leaf (13 - (height + 1)) (height + 1) (place / 2)
  unfolding siblings
  siblings_next height place below =
      let more : 13 - height ≡ suc (13 - (height + 1)) = omega arith in
      let next : suc height ≡ height + 1 = omega arith in
      ap (λ (n : ℕ). siblings leaf n height place) more
      ∙ ap (λ (h : ℕ). tree_node leaf height (beside place) ∷ siblings leaf (13 - (height + 1)) h (place / 2)) next

-- one level of zeros more
pub empty_next : (n : ℕ) (node left right above : List ℕ) → node ≡ empty_node n → above ≡ parent left right → left ≡ node → right ≡ node → above ≡ empty_node (n + 1)
unfolding empty_node
empty_next n node left right above e is l r = is ∙ ap₂ parent (l ∙ e) (r ∙ e) ∙ ap empty_node (sym (add-one n))

-- the hash of a record is its root
pub record_hash : (records : List ℕ) (parts : List (List ℕ)) → parts ≡ first_chunks 64 (length records / 64) records → (position : ℕ) → position < length parts
    → length parts ≡ length records / 64 → (one made : List ℕ) → one ≡ get_or parts position [] → made ≡ sha256 one → made ≡ record_root records position
record_hash records parts are position there size one made e is =
    is
    ∙ ap sha256 (e ∙ ap (λ (l : List (List ℕ)). get_or l position []) are ∙ chunk_at 64 (length records / 64) records position (omega arith))
    ∙ sym (root_hash records position (omega arith))

-- a node that begins behind the last record is an empty one
pub records_end : (records : List ℕ) (last : ℕ) → last ≡ length records / 64 - 1 → (height place : ℕ) → last / 2 ^ height < place
    → empty_node height ≡ tree_node (record_root records) height place
records_end records last is height place behind =
    sym (node_empty (record_root records) last (λ (p : ℕ) (h : last < p). root_behind records p (omega (arith, is, h))) height place behind)

-- a number of two bytes as a chunk
pub count_bytes : (n low high : ℕ) → n < 65536 → low ≡ n % 256 → high ≡ n / 256 % 256 → low ∷ high ∷ replicate 30 0 ≡ le_bytes 32 n
unfolding le_bytes
count_bytes n low high small l h =
    let none : 0 ≡ n / 256 / 256 = omega arith in
    l_h l h ∙ ap (λ (x : ℕ). n % 256 ∷ n / 256 % 256 ∷ le_bytes 30 x) none
  where
    l_h : low ≡ n % 256 → high ≡ n / 256 % 256 → ◌≡◌ {A = List ℕ} (low ∷ high ∷ replicate 30 0) (n % 256 ∷ n / 256 % 256 ∷ replicate 30 0)
    l_h p q = cc

-- the root, of the tree and the number of records
pub root_made : (records made left right : List ℕ) → made ≡ parent left right → left ≡ tree_node (record_root records) 13 0 → right ≡ count_chunk records → made ≡ epoch_root records
unfolding epoch_root
root_made records made left right is l r = is ∙ ap₂ parent l r
