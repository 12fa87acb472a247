-- `epoch_tree::record_root` meets its contract. Assumes nothing.
use native.Mathlib.Omega.{arith}
use mathlib.Core.Path.{sym}
use mathlib.Core.List.{[]}
use Rattle.accumulator.proofs.Epochs.{root_behind}
use Rattle.epoch_tree.proofs.Nodes.{record_hash}
use Rattle.epoch_tree.proofs.record_root.Goals as goal

pub returns-in-Some : goal.returns-in-Some
returns-in-Some c =
    let look = c.in-Some.ensures.lookup in
    record_hash c.args.records.now c.as_chunks.result.0.now c.as_chunks.ensures.front c.args.position look.3.0 c.as_chunks.ensures.front_len c.in-Some.record.now _ (look.3.1 []) c.hash.ensures

pub returns-in-None : goal.returns-in-None
returns-in-None c = let look = c.in-None.ensures.lookup in sym (root_behind c.args.records.now c.args.position (omega (arith, look.3, c.as_chunks.ensures.front_len)))
