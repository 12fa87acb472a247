-- What the check does not find alone of `routing_table::scans::last`: what the search from the end says of each place. Assumes nothing.
use mathlib.Core.Path.{◌≡◌, refl}
use lib.Dec.{eqb}
use borrow.Author.Rules.{rules}
use Rattle.std.specs.Prelude.{None, Some}
use Rattle.std.proofs.iter.runs.Made.{chains}
use Rattle.routing_table.proofs.Passes.{last_from, LastAt}
use Rattle.routing_table.proofs.scans.last.Goals as goal

pub returns : goal.returns
returns c =
    let a = c.args in
    last_from eqb a.d a.logs.now 0 c.rposition.result (elim c.rposition.result as (λ r. c.rposition.result ≡ r → LastAt eqb a.d a.logs.now 0 r) [
      | None ↦ λ e k h. search (rules, chains)
      | Some i ↦ λ e. search (rules, chains)
    ] refl)
