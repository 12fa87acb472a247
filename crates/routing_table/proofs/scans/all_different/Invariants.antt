-- `routing_table::scans::all_different` meets its contract. The invariants: before a row, no id of an earlier row is equal to another
-- (`Clear`); in a row, nor is the row's id to those passed (`Row`). The measures are what is left of the ids. Assumes nothing.
use mathlib.Core.List.{[]}
use Prim.Native.Nat.{◌-◌}
use mathlib.Core.Path.{◌≡◌}
use mathlib.Core.Bool.{true}
use lib.ListN.{length}
use Rattle.octets.specs.Equal.{same_bytes}
use Rattle.octets.proofs.Pairs.{Clear, Row}
use Rattle.routing_table.proofs.scans.all_different.Given as goal

abbrev pub invariant-loop-j : goal.invariant-loop-j
invariant-loop-j l = (l.all ≡ true) × (l.i-end ≡ length l.ids) × (l.j-end ≡ length l.ids) × Row same_bytes [] l.ids (length l.ids) l.i l.j

abbrev pub decreases-loop-j : goal.decreases-loop-j
decreases-loop-j l = length l.ids - l.j

abbrev pub invariant-pairs : goal.invariant-pairs
invariant-pairs l = (l.all ≡ true) × (l.i-end ≡ length l.ids) × Clear same_bytes l.ids (length l.ids) l.i

abbrev pub decreases-pairs : goal.decreases-pairs
decreases-pairs l = length l.ids - l.i
