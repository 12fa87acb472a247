-- `routing_table::surveys::fitted` meets its contract: the parts of ids and log distances are those of the entries and of the replacements
-- (`proofs/Cuts.antt`). Assumes nothing.
use mathlib.Core.Path.{sym, ◌∙◌}
use Rattle.routing_table.proofs.Cuts.{misfit, fitting}
use borrow.Author.Rules.{rules}
use Rattle.routing_table.proofs.surveys.fitted.Goals as goal

pub returns-then-not-fit : goal.returns-then-not-fit
returns-then-not-fit c =
    λ v o i l m.
    let a = c.args in
    misfit v a.own a.id a.ids.now a.logs.now a.middle o i l m (sym c.fit.ensures ∙ c.if-not-fit.true)

pub returns : goal.returns
returns c =
    λ v o i l m.
    let a = c.args in
    fitting v a.own a.id a.ids.now a.logs.now a.middle o i l m _ (search rules)
    (sym c.fit.ensures ∙ c.if-not-fit.false) _ c.told.ensures
