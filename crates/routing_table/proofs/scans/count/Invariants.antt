-- `routing_table::scans::count` meets its contract. The invariant: the number so far is how often the test passed. Assumes nothing.
use Prim.Native.Nat.{ℕ, ◌≤◌}
use mathlib.Core.Path.{◌≡◌}
use lib.Dec.{eqb}
use lib.ListN.{take}
use Rattle.std.specs.Prelude.{count_by}
use Rattle.routing_table.proofs.scans.count.Given as goal

abbrev pub invariant-loop-log : goal.invariant-loop-log
invariant-loop-log l = (l.n ≤ l.log-index) × (l.n ≡ count_by (λ (x : ℕ). eqb l.d x) (take l.log-index l.logs))
