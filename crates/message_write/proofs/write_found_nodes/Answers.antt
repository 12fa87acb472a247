-- `message_write::write_found_nodes` meets its contract: the records decide, then the total, and the parts are the message's bytes. Assumes nothing.
use native.Mathlib.Omega.{arith}
use mathlib.Core.Path.{refl}
use lib.ListN.{length}
use borrow.Author.Rules.{rules}
use Rattle.refusal.specs.declared.Refusal.TheVariants.{ItemRule}
use Rattle.message_write.proofs.Answers.{refused_writes, passed_on, writes_as}
use Rattle.message_write.proofs.Found.{nodes_refused, nodes_none, nodes_good}
use Rattle.message_write.proofs.write_found_nodes.Goals as goal

pub returns-in_err-records : goal.returns-in_err-records
returns-in_err-records c =
    let a = c.args in
    passed_on _ _ (search rules) (nodes_refused a.bytes.now a.starts.now a.lens.now a.total (length a.out.now) _ c.in_err-records.ensures)

pub returns-then-total-eq0 : goal.returns-then-total-eq0
returns-then-total-eq0 c =
    let a = c.args in
    refused_writes ItemRule a.out.now (nodes_none a.bytes.now a.starts.now a.lens.now a.total (length a.out.now) _ c.in_ok-records.ensures (search rules))

pub write_list-requires : goal.write_list-requires
write_list-requires c = (search rules, c.in_ok-records.ensures.places _ refl)

pub returns : goal.returns
returns c =
    let a = c.args in
    writes_as c.write_list.ensures
    (nodes_good a.bytes.now a.starts.now a.lens.now a.total (length a.out.now) _ c.in_ok-records.ensures
    (omega (arith, c.if-total-eq0.false)) _ _ c.nodes_head.ensures (omega arith))
