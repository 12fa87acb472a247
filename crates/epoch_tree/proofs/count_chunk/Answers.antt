-- `epoch_tree::count_chunk` meets its contract: there are few enough records for two bytes. Assumes nothing.
use Prim.Native.Nat.{◌/◌}
use native.Mathlib.Omega.{arith}
use lib.ListN.{length}
use borrow.Author.Rules.{rules}
use Rattle.accumulator.proofs.Epochs.{lengths}
use Rattle.epoch_tree.proofs.Nodes.{count_bytes}
use Rattle.epoch_tree.proofs.count_chunk.Goals as goal

pub overflow_cast-records : goal.overflow_cast-records
overflow_cast-records c =
    let few = (lengths c.args.records.now c.requires).most in
    search rules

pub returns : goal.returns
returns c =
    let few = (lengths c.args.records.now c.requires).most in
    count_bytes (length c.args.records.now / 64) _ _ (omega arith) (search rules) (search rules)
