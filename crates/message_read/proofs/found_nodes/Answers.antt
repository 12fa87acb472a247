-- `message_read::found_nodes` meets its contract: the layout decides, then the records, and then the total. Assumes nothing.
use borrow.Author.Rules.{rules}
use Rattle.message_read.proofs.Answers.{passed_on}
use Rattle.message_read.proofs.Found.{nodes_broken, nodes_refused, nodes_zero, nodes_good}
use Rattle.message_read.proofs.found_nodes.Goals as goal

pub returns-in_err-rest : goal.returns-in_err-rest
returns-in_err-rest c = passed_on _ (search rules) (nodes_broken _ _ c.in_err-rest.ensures)

pub returns-in_err-records : goal.returns-in_err-records
returns-in_err-records c = passed_on _ (search rules) (nodes_refused _ c.in_ok-rest.ensures _ c.in_err-records.ensures)

pub returns-then-total-eq0 : goal.returns-then-total-eq0
returns-then-total-eq0 c = nodes_zero _ c.in_ok-rest.ensures _ c.in_ok-records.ensures (search rules)

pub returns : goal.returns
returns c = nodes_good _ c.in_ok-rest.ensures _ c.in_ok-records.ensures (search rules)
