-- `groups::first` meets its contract. The invariant: those passed are taken, and the size is that of a message with them (`Taking` of
-- `proofs/Taking.antt`). Assumes nothing.
use Rattle.reply.proofs.Taking.{Taking}
use Rattle.reply.proofs.groups.first.Given as goal

abbrev pub invariant-loop-i : goal.invariant-loop-i
invariant-loop-i l = Taking l.head l.lens l.i l.size
