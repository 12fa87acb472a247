-- What the check does not find alone of `routing_table::scans::place`: what the search says of each place. Assumes nothing.
use mathlib.Core.Path.{◌≡◌, refl}
use borrow.Author.Rules.{rules}
use Rattle.std.specs.Prelude.{None, Some}
use Rattle.std.proofs.iter.runs.Made.{chains}
use Rattle.routing_table.proofs.Passes.{first_from, FirstAt}
use Rattle.routing_table.proofs.scans.place.Goals as goal

pub returns : goal.returns
returns g c =
    let a = c.args in
    first_from g.T.PartialEq.eq a.item.now a.items.now a.item.now c.position.result (elim c.position.result as (λ r. c.position.result ≡ r → FirstAt g.T.PartialEq.eq a.item.now a.items.now a.item.now r) [
      | None ↦ λ e k h. search (rules, chains)
      | Some i ↦ λ e. search (rules, chains)
    ] refl)
