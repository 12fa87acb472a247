-- What the check does not find alone of `routing_table::scans::count`; the invariant beside it says how the loop goes. Assumes nothing.
use mathlib.Core.Path.{ap, ◌∙◌}
use lib.Dec.{eqb}
use lib.Seq.{take_all}
use Prim.Native.Nat.{ℕ}
use native.Mathlib.Omega.{arith}
use Rattle.std.specs.Prelude.{count_by}
use Rattle.routing_table.proofs.Passes.{count_is}
use Rattle.routing_table.proofs.scans.count.Goals as goal

pub returns : goal.returns
returns c =
    let a = c.args in
    c.loop-log.invariant.1 ∙ ap (count_by (λ (x : ℕ). eqb a.d x)) (take_all c.loop-log.log-index a.logs.now (omega arith)) ∙ count_is a.d a.logs.now
