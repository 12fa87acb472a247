-- `routing_table::RoutingTable::survey` meets its contract: a count over its array's size ends it, and otherwise the parts are the entries
-- and the replacements of the view. Assumes nothing.
use Prim.Native.Nat.{◌<◌, ◌≤◌}
use native.Mathlib.Omega.{arith}
use mathlib.Core.Path.{◌≡◌, sym, ap₂, ◌∙◌}
use mathlib.Core.List.{List}
use mathlib.Core.Logic.{⊎_elim}
use lib.ListN.{take}
use borrow.Author.Rules.{rules}
use Rattle.std.specs.Prelude.{None}
use Rattle.routing_table.specs.View.{no_entry, no_contact}
use Rattle.routing_table.specs.Survey.{survey_of}
use Rattle.routing_table.specs.declared.Contact.{Contact}
use Rattle.routing_table.specs.declared.Entry.{Entry}
use Rattle.routing_table.proofs.Firsts.{firsts_take}
use Rattle.routing_table.proofs.Kept.{count_over, waiting_over}
use Rattle.routing_table.proofs.RoutingTable.survey.Goals as goal

pub returns-in_err-entries-clause-facts : goal.returns-in_err-entries-clause-facts
returns-in_err-entries-clause-facts c =
    let t = c.args.self.now in
    let over : 128 < t.count = ⊎_elim (λ h. absurd (omega arith)) (λ h. search rules) c.in_err-entries.ensures.lookup.0 in
    let none : c.from_residual.result ≡ None = search rules in
    none ∙ sym (count_over t c.args.id over)

pub returns-in_err-replacements-clause-facts : goal.returns-in_err-replacements-clause-facts
returns-in_err-replacements-clause-facts c =
    let t = c.args.self.now in
    let few : t.count ≤ 128 = search rules in
    let over : 16 < t.waiting = ⊎_elim (λ h. absurd (omega arith)) (λ h. search rules) c.in_err-replacements.ensures.lookup.0 in
    let none : c.from_residual-in_err-replacements.result ≡ None = search rules in
    none ∙ sym (waiting_over t c.args.id few over)

pub returns-clause-facts : goal.returns-clause-facts
returns-clause-facts c =
    let t = c.args.self.now in
    let entries : c.in_ok-entries.entries.now ≡ take t.count t.entries = search rules in
    let replacements : c.in_ok-replacements.replacements.now ≡ take t.waiting t.replacements = search rules in
    c.surveyed.ensures
    ∙ ap₂ (λ (x : List Entry) (y : List Contact). survey_of (record { own = t.own; entries = x; replacements = y }) c.args.id)
    (entries ∙ sym (firsts_take no_entry t.count t.entries (search rules)))
    (replacements ∙ sym (firsts_take no_contact t.waiting t.replacements (search rules)))
