-- The proof of the cycle of calls {node}: the four ways to a node. Assumes nothing.
use mathlib.Core.Path.{refl, ◌∙◌}
use borrow.Author.Rules.{rules}
use Rattle.accumulator.proofs.Epochs.{lengths}
use Rattle.epoch_tree.proofs.Nodes.{node_leaf, node_over, records_end}
use Rattle.epoch_tree.proofs.+node.Goals as goal

pub returns-then-height-eq0 : goal.returns-then-height-eq0
returns-then-height-eq0 t c = c.record_root.ensures ∙ node_leaf _ _ _ (search rules)

pub overflow_sub-last : goal.overflow_sub-last
overflow_sub-last t c = let some = (lengths c.args.records.now c.requires.records_value).some in search rules

pub returns-then-last-height : goal.returns-then-last-height
returns-then-last-height t c = c.empty_node.ensures ∙ records_end _ _ refl _ _ (search rules)

pub returns : goal.returns
returns t c = c.parent.ensures ∙ node_over _ _ _ (search rules) _ _ c.node-left.ensures c.node-right.ensures
