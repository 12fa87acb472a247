-- `message_write::parts::write_two` meets its contract: the size decides, and then the parts stand one behind the other. Assumes nothing.
use borrow.Author.Rules.{rules}
use Rattle.message_write.proofs.Answers.{passed_on}
use Rattle.message_write.proofs.Wholes.{two_refused, two_wrote}
use Rattle.message_write.proofs.parts.write_two.Goals as goal

pub returns-in_err-whole : goal.returns-in_err-whole
returns-in_err-whole c = passed_on _ _ (search rules) (two_refused c.args.head.now c.args.rest.now c.args.out.now _ c.in_err-whole.ensures)

pub returns : goal.returns
returns c =
    two_wrote c.args.head.now c.args.rest.now c.args.out.now _ _ c.in_ok-whole.ensures (search rules) _ _ _ _ _
    c.put.ensures.out_after c.put-2.ensures.out_after (search rules) (search rules) (search rules)
