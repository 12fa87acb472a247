-- `routing_table::surveys::lay` meets its contract. The invariant: the first slots have what is made of the first items. Assumes nothing.
use mathlib.Core.Path.{◌≡◌}
use mathlib.Core.List.{map}
use lib.Seq.{paste}
use Rattle.std.specs.Fn.{FnReturnsAt}
use Rattle.routing_table.proofs.surveys.lay.Given as goal

abbrev pub invariant-loop-i : goal.invariant-loop-i
invariant-loop-i g l =
    (f : g.row.T.Denot → g.row.U.Denot) → ((x : g.row.T.Denot) (r : g.row.U.Denot) → FnReturnsAt g.F.Fn l.make x r → r ≡ f x)
    → l.slots ≡ paste l.initial.slots l.at (map f l.items) l.i
