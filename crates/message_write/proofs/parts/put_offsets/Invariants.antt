-- `message_write::parts::put_offsets` meets its contract. The invariant: the offsets of the records passed are written (`Offsets`). Assumes nothing.
use Rattle.message_write.proofs.Turns.{Offsets}
use Rattle.message_write.proofs.parts.put_offsets.Given as goal

abbrev pub invariant-loop-i : goal.invariant-loop-i
invariant-loop-i l = Offsets l.records.lens l.records.count l.at l.initial.out l.out l.next l.i
