-- What the check does not find alone of `epoch_tree::siblings`; the invariants beside it say how the loop goes. Assumes nothing.
use native.Mathlib.Omega.{arith}
use mathlib.Core.Path.{refl}
use borrow.Author.Rules.{rules}
use Rattle.accumulator.proofs.Epochs.{lengths}
use Rattle.epoch_tree.proofs.Branches.{written_first, written_next, written_last}
use Rattle.epoch_tree.proofs.siblings.Goals as goal

pub loop-height-init : goal.loop-height-init
loop-height-init c =
    let most = (lengths c.args.records.now c.requires.records_value).most in
    (omega arith, search rules, written_first _ _ c.requires.position_bound _ refl c.part.result _ c.part.ensures (search rules))

pub node-requires : goal.node-requires
node-requires c = record { records_value = c.requires.records_value; height_bound = search rules }

pub loop-height-preserved : goal.loop-height-preserved
loop-height-preserved c = (
  search rules,
  search rules,
  written_next _ _ _ _ _ (search rules) c.loop-height.invariant.2 _ (search rules) c.node.result _ c.node.ensures c.beside.ensures,
)

pub count_chunk-requires : goal.count_chunk-requires
count_chunk-requires c = c.requires.records_value

pub returns : goal.returns
returns c =
    let at = c.loop-height in
    written_last _ _ at.height at.place at.out (omega arith) at.invariant.2 c.count_chunk.result (search rules)
