-- `message_write::write_found_content` meets its contract: the records decide, then what is present, and the parts are the message's bytes.
-- Assumes nothing.
use native.Mathlib.Omega.{arith}
use mathlib.Core.Path.{refl, sym, ◌∙◌}
use lib.ListN.{length}
use borrow.Author.Rules.{rules}
use Rattle.refusal.specs.declared.Refusal.TheVariants.{ItemRule}
use Rattle.message_write.proofs.Answers.{refused_writes, passed_on, writes_as}
use Rattle.message_write.proofs.Turns.{list_size}
use Rattle.message_write.proofs.Found.{content_refused, content_bad, content_good}
use Rattle.message_write.proofs.write_found_content.Goals as goal

pub returns-in_err-records : goal.returns-in_err-records
returns-in_err-records c =
    let a = c.args in
    passed_on _ _ (search rules)
    (content_refused a.bytes.now a.starts.now a.lens.now a.connection a.content.now (length a.out.now) _ c.in_err-records.ensures)

pub returns-then-things-gt1 : goal.returns-then-things-gt1
returns-then-things-gt1 c =
    let a = c.args in
    refused_writes ItemRule a.out.now
    (content_bad a.bytes.now a.starts.now a.lens.now a.connection a.content.now (length a.out.now) _ c.in_ok-records.ensures
    c.things.result (omega (arith, c.things.ensures)) (search rules))

pub list_size-requires : goal.list_size-requires
list_size-requires c = (c.in_ok-records.ensures.places _ refl).small

pub write_list-requires : goal.write_list-requires
write_list-requires c = (search rules, c.in_ok-records.ensures.places _ refl)

pub returns : goal.returns
returns c =
    let a = c.args in
    writes_as c.write_list.ensures
    (content_good a.bytes.now a.starts.now a.lens.now a.connection a.content.now (length a.out.now) _ c.in_ok-records.ensures
    c.things.result (omega (arith, c.things.ensures)) (search rules)
    _ (c.list_size.ensures.0 ∙ sym (list_size a.bytes.now _ (c.in_ok-records.ensures.places _ refl).inside)) _ c.content_head-head.ensures)
