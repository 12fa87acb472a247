-- `message_rules::some_equal` meets its contract. The invariants: before a row, no record of an earlier row is equal to another (`Clear`); in a
-- row, nor is the row's record to those passed (`Row`). The steps, and the pair that the label leaves at, are laws of `proofs/Pairs.antt`.
-- The measures are what is left of the count. Assumes nothing.
use Prim.Native.Nat.{◌-◌}
use mathlib.Core.Path.{◌≡◌}
use mathlib.Core.Bool.{false}
use Rattle.message_rules.proofs.Pairs.{Clear, Row, records}
use Rattle.message_rules.proofs.some_equal.Given as goal

abbrev pub invariant-loop-j : goal.invariant-loop-j
invariant-loop-j l = (l.found ≡ false) × Row (records l.bytes l.places) l.places.count l.i l.j

abbrev pub decreases-loop-j : goal.decreases-loop-j
decreases-loop-j l = l.places.count - l.j

abbrev pub invariant-pairs : goal.invariant-pairs
invariant-pairs l = (l.found ≡ false) × Clear (records l.bytes l.places) l.places.count l.i

abbrev pub decreases-pairs : goal.decreases-pairs
decreases-pairs l = l.places.count - l.i
