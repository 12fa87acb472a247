-- Binary trees of 32-byte chunks, as SSZ lays them out: merkleization, and the root computed from a leaf and its siblings.
use Rattle.std.specs.Prelude.{ℕ, zero, suc, ◌+◌, ◌*◌, ◌-◌, ◌/◌, ◌%◌, cond, List, [], ◌∷◌, ◌++◌, eqb, replicate}
use Rattle.sha256.specs.Hash.{sha256}

-- the node over two nodes
unfoldable pub parent : List ℕ → List ℕ → List ℕ
parent left right = sha256 (left ++ right)

-- the chunk that stands behind the last one of a list
abbrev pub zero_chunk : List ℕ
zero_chunk = replicate 32 0

-- the node of a height, 0 for the leaves, at a place among those of its height: its two halves are the nodes right below it
unfoldable pub tree_node : (ℕ → List ℕ) → ℕ → ℕ → List ℕ
tree_node leaf zero place = leaf place
tree_node leaf (suc height) place = parent (tree_node leaf height (2 * place)) (tree_node leaf height (2 * place + 1))

-- the node of a height that has zero chunks below it only
unfoldable pub empty_node : ℕ → List ℕ
empty_node zero = zero_chunk
empty_node (suc height) = parent (empty_node height) (empty_node height)

-- the place of a node's sibling, the other half of the same node
unfoldable pub beside : ℕ → ℕ
beside place = cond (eqb (place % 2) 0) (place + 1) (place - 1)

-- the siblings of a node and of the nodes above it, so many of them, the lowest first
unfoldable pub siblings : (ℕ → List ℕ) → ℕ → ℕ → ℕ → List (List ℕ)
siblings leaf zero height place = []
siblings leaf (suc n) height place = tree_node leaf height (beside place) ∷ siblings leaf n (suc height) (place / 2)

-- a node joined with its sibling: it is the left half where its generalized index is even
unfoldable pub joined : ℕ → List ℕ → List ℕ → List ℕ
joined index node sibling = cond (eqb (index % 2) 0) (parent node sibling) (parent sibling node)

-- the root computed from a node of this generalized index and its siblings, the lowest first
unfoldable pub root_along : ℕ → List ℕ → List (List ℕ) → List ℕ
root_along index node [] = node
root_along index node (sibling ∷ above) = root_along (index / 2) (joined index node sibling) above
