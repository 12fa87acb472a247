-- `key_lines::list` meets its contract. The invariant `Through` says what the used part of the input left begun and printed; a turn is the laws
-- `grown` and, at a line feed, `ended` (`proofs/Turns.antt`). The measure is what is left of the input. Assumes nothing.
use Prim.Native.Nat.{◌-◌}
use lib.ListN.{length}
use Rattle.key_lines.proofs.Turns.{Through}
use Rattle.key_lines.proofs.list.Given as goal

abbrev pub invariant-loop-at : goal.invariant-loop-at
invariant-loop-at l = Through l.initial.line l.input l.initial.out l.out l.line l.at l.written

abbrev pub decreases-loop-at : goal.decreases-loop-at
decreases-loop-at l = length l.input - l.at
