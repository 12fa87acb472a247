-- `canonical::root_along` meets its contract. The invariant: what the siblings that are left make of the node is what all of them make of the leaf.
-- Assumes nothing.
use mathlib.Core.Path.{◌≡◌}
use lib.ListN.{drop}
use Rattle.accumulator.specs.Tree.{root_along}
use Rattle.canonical.proofs.root_along.Given as goal

abbrev pub invariant-loop-sibling : goal.invariant-loop-sibling
invariant-loop-sibling l = root_along l.index l.node (drop l.sibling-index l.sibling-items) ≡ root_along l.fn.index l.fn.leaf l.sibling-items
