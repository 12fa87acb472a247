-- Trees: each node has 32 bytes, what is all zeros below is an empty node, and the root computed from a node and its siblings is the tree's.
-- Assumes nothing.
use Prim.Native.Nat.{ℕ, zero, suc, ◌+◌, ◌*◌, ◌-◌, ◌/◌, ◌%◌, ◌^◌, ◌<◌}
use native.Mathlib.Nat.{mul_assoc, mul-one, div-one, pow-zero, pow-suc}
use native.Mathlib.Numerals.{add-one}
use native.Mathlib.Omega.{arith}
use mathlib.Core.Path.{◌≡◌, refl, sym, ap, ap₂, ◌∙◌}
use mathlib.Core.Bool.{Bool, true, false, cond}
use mathlib.Core.List.{List, [], ◌++◌, append-nil}
use Rattle.sha256.specs.Hash.{sha256}
use lib.Dec.{eqb}
use lib.ListN.{length}
use lib.Pow.{shr-shr}
use borrow.Author.Tests.{eqb-true, eqb-false}
use Rattle.sha256.proofs.Hashes.{length_sha256}
use Rattle.accumulator.specs.Tree.{parent, zero_chunk, tree_node, empty_node, beside, siblings, joined, root_along}

pub length_parent : (left right : List ℕ) → length (parent left right) ≡ 32
unfolding parent
length_parent left right = length_sha256 (left ++ right)

-- two halves, the first of them on the left where the test is passed
abbrev ordered : Bool → List ℕ → List ℕ → List ℕ
ordered even x y = cond even (parent x y) (parent y x)

module _ (leaf : ℕ → List ℕ) where
  -- a node has 32 bytes, if each leaf has
  pub length_node : ((place : ℕ) → length (leaf place) ≡ 32) → (height place : ℕ) → length (tree_node leaf height place) ≡ 32
  unfolding tree_node
  length_node each zero place = each place
  length_node each (suc height) place = length_parent (tree_node leaf height (2 * place)) (tree_node leaf height (2 * place + 1))

  -- a node behind the last leaf that is not all zeros is an empty one
  pub node_empty : (last : ℕ) → ((place : ℕ) → last < place → leaf place ≡ zero_chunk) → (height place : ℕ) → last / 2 ^ height < place
      → tree_node leaf height place ≡ empty_node height
  unfolding tree_node empty_node
  node_empty last zeros zero place behind =
      let one : last / 2 ^ 0 ≡ last = ap (λ (p : ℕ). last / p) (pow-zero 2) ∙ div-one last in
      zeros place (omega (arith, one, behind))
  node_empty last zeros (suc height) place behind =
      let half : last / 2 ^ height / 2 ≡ last / 2 ^ suc height = shr-shr last height 1 ∙ ap (λ (k : ℕ). last / 2 ^ k) (add-one height) in
      ap₂ parent
      (node_empty last zeros height (2 * place) (omega (arith, half, behind)))
      (node_empty last zeros height (2 * place + 1) (omega (arith, half, behind)))

  -- a node and its sibling in their order are the halves of the node above
  halves : (height place : ℕ) (even : Bool) → eqb (place % 2) 0 ≡ even
      → ordered even (tree_node leaf height place) (tree_node leaf height (cond even (place + 1) (place - 1))) ≡ tree_node leaf (suc height) (place / 2)
  unfolding tree_node
  halves height place true e =
      let bit = eqb-true (place % 2) 0 e in
      ap₂ (λ (i j : ℕ). parent (tree_node leaf height i) (tree_node leaf height j)) (omega (arith, bit)) (omega (arith, bit))
  halves height place false e =
      let bit = eqb-false (place % 2) 0 e in
      ap₂ (λ (i j : ℕ). parent (tree_node leaf height i) (tree_node leaf height j)) (omega (arith, bit)) (omega (arith, bit))

  -- so a node joined with its sibling is the node above, where index and place are both even or both odd
  joined_node : (index height place : ℕ) → index % 2 ≡ place % 2
      → joined index (tree_node leaf height place) (tree_node leaf height (beside place)) ≡ tree_node leaf (suc height) (place / 2)
  unfolding joined beside
  joined_node index height place bit =
      ap (λ (m : ℕ). ordered (eqb m 0) (tree_node leaf height place) (tree_node leaf height (beside place))) bit
      ∙ halves height place (eqb (place % 2) 0) refl

  -- the root computed from a node and its siblings: past n of them it has come to the first node n higher, with the rest of the index
  pub root_along_lem : (k n height place top : ℕ) (above : List (List ℕ)) → place < 2 ^ n → top ≡ n + height → (index : ℕ) → index ≡ k * 2 ^ n + place
      → root_along index (tree_node leaf height place) (siblings leaf n height place ++ above) ≡ root_along k (tree_node leaf top 0) above
  unfolding root_along siblings
  root_along_lem k zero height place top above below is index at =
      let one : 2 ^ 0 ≡ 1 = pow-zero 2 in
      let all : k * 2 ^ 0 ≡ k = ap (λ (p : ℕ). k * p) one ∙ mul-one k in
      ap (λ (i : ℕ). root_along i (tree_node leaf height place) above) (omega (arith, all, at, one, below))
      ∙ ap₂ (λ (h p : ℕ). root_along k (tree_node leaf h p) above) (omega (arith, is)) (omega (arith, one, below))
  root_along_lem k (suc n) height place top above below is index at =
      let twice : 2 ^ suc n ≡ 2 ^ n * 2 = pow-suc 2 n in
      let all : k * 2 ^ suc n ≡ k * 2 ^ n * 2 = ap (λ (p : ℕ). k * p) twice ∙ sym (mul_assoc k (2 ^ n) 2) in
      ap (λ (x : List ℕ). root_along (index / 2) x (siblings leaf n (suc height) (place / 2) ++ above)) (joined_node index height place (omega (arith, all, at)))
      ∙ root_along_lem k n (suc height) (place / 2) top above (omega (arith, twice, below)) (omega (arith, is)) (index / 2) (omega (arith, all, at))

-- the hash of two halves, one behind the other, is the node over them
pub parent_made : (left right both made : List ℕ) → made ≡ sha256 both → both ≡ left ++ (right ++ []) → made ≡ parent left right
unfolding parent
parent_made left right both made is e = is ∙ ap sha256 (e ∙ ap (λ (l : List ℕ). left ++ l) (append-nil right))
