-- `message_write::parts::put_records` meets its contract. The invariant: the records passed are written (`Records`). Assumes nothing.
use lib.ListN.{length}
use Rattle.message_write.proofs.Turns.{Records}
use Rattle.message_write.proofs.parts.put_records.Given as goal

abbrev pub invariant-loop-start : goal.invariant-loop-start
invariant-loop-start l = Records l.bytes l.records l.at l.initial.out l.out l.next (length l.yielded)
