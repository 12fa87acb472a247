-- What the check does not find alone of `epoch_tree::empty_node`; the invariants beside it say how the loop goes. Assumes nothing.
use native.Mathlib.Omega.{arith}
use mathlib.Core.Path.{refl, ap, ◌∙◌}
use borrow.Author.Rules.{rules}
use Rattle.accumulator.specs.Tree.{empty_node}
use Rattle.epoch_tree.proofs.Nodes.{empty_next}
use Rattle.epoch_tree.proofs.empty_node.Goals as goal

pub loop-init : goal.loop-init
unfolding empty_node
loop-init c = (search rules, refl)

pub loop-preserved : goal.loop-preserved
loop-preserved c = (search rules, empty_next _ _ _ _ _ c.loop.invariant.1 c.parent-above.ensures (search rules) (search rules))

pub returns : goal.returns
returns c = c.loop.invariant.1 ∙ ap empty_node (omega arith)
