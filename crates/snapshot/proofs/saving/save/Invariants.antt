-- `saving::save` meets its contract. The invariant is `Saving` (`proofs/Writing.antt`): the buffer starts with the first line and the lines of
-- the first i keys. Assumes nothing.
use mathlib.Core.Path.{◌≡◌}
use lib.ListN.{length}
use Rattle.snapshot.proofs.Writing.{Saving}
use Rattle.snapshot.proofs.saving.save.Given as goal

abbrev pub invariant-loop-i : goal.invariant-loop-i
invariant-loop-i l =
    Saving l.index.node l.index.cap l.index.keys l.index.count l.initial.out l.i l.out × (length l.out ≡ length l.initial.out)
