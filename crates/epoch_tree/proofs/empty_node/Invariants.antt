-- `epoch_tree::empty_node` meets its contract. The invariant: the node is the empty one of as many levels as were passed. The measure is how many
-- are left. Assumes nothing.
use Prim.Native.Nat.{◌-◌, ◌≤◌}
use mathlib.Core.Path.{◌≡◌}
use Rattle.accumulator.specs.Tree.{empty_node}
use Rattle.epoch_tree.proofs.empty_node.Given as goal

abbrev pub invariant-loop : goal.invariant-loop
invariant-loop l = (l.counter ≤ l.height) × (l.node ≡ empty_node l.counter)

abbrev pub decreases-loop : goal.decreases-loop
decreases-loop l = l.height - l.counter
