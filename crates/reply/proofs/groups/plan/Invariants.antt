-- `groups::plan` meets its contract. The invariant: the groups of the records before `from` are counted, and their bytes (`Spreading` of
-- `proofs/Spreading.antt`). The measure is what is left of the lengths. Assumes nothing.
use Prim.Native.Nat.{◌-◌}
use lib.ListN.{length}
use Rattle.reply.proofs.Spreading.{Spreading}
use Rattle.reply.proofs.groups.plan.Given as goal

abbrev pub invariant-loop-from : goal.invariant-loop-from
invariant-loop-from l = Spreading l.lens l.from l.count l.size

abbrev pub decreases-loop-from : goal.decreases-loop-from
decreases-loop-from l = length l.lens - l.from
