-- `reply::is_of` meets its contract. Assumes nothing.
use Rattle.routing_table.specs.View.{view}
use Rattle.reply.proofs.Requests.{of_none, of_some}
use borrow.Author.Rules.{rules}
use Rattle.reply.proofs.is_of.Goals as goal

pub returns-in-Some : goal.returns-in-Some
returns-in-Some c =
    of_some (view c.args.table.now) c.args.node c.survey.result c.survey.ensures.facts _ c.in-Some.is _ (search rules)

pub returns-in-None : goal.returns-in-None
returns-in-None c =
    of_none (view c.args.table.now) c.args.node c.survey.result c.survey.ensures.facts c.in-None.is _ (search rules)
