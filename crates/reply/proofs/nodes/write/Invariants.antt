-- `nodes::write` meets its contract. The invariant: the first i messages are written, their lengths are noted, and the groups left are those
-- of the records left (`Sending` of `proofs/Sending.antt`). The measure is what is left of the messages. Assumes nothing.
use Prim.Native.Nat.{◌-◌}
use Rattle.reply.specs.Ready.{lent_in}
use Rattle.reply.proofs.Sending.{Sending}
use Rattle.reply.proofs.nodes.write.Given as goal

abbrev pub invariant-loop-i : goal.invariant-loop-i
invariant-loop-i l = Sending (lent_in l.bytes l.starts l.lens) l.initial.out l.i l.from l.at l.sizes l.out

abbrev pub decreases-loop-i : goal.decreases-loop-i
decreases-loop-i l = l.count - l.i
