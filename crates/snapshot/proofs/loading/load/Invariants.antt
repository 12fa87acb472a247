-- `loading::load` meets its contract. The invariant is `Through` (`proofs/Turns.antt`), whose steps answer the returns and the next turn.
-- Assumes nothing.
use mathlib.Core.Path.{◌≡◌}
use lib.ListN.{length}
use Rattle.snapshot.proofs.Turns.{Through}
use Rattle.snapshot.proofs.loading.load.Given as goal

abbrev pub invariant-loop-i : goal.invariant-loop-i
invariant-loop-i l =
    Through l.text l.header.size l.header.node l.header.cap l.header.count l.keys l.last l.i × (length l.keys ≡ length l.initial.keys)
