-- `message_write::write_key` meets its contract: the key's own rules decide, and the fixed part and the key are the message's bytes. Assumes nothing.
use lib.ListN.{length}
use borrow.Author.Rules.{rules}
use Rattle.message_write.proofs.Answers.{passed_on, writes_as}
use Rattle.message_write.proofs.Shapes.{key_bad, key_good}
use Rattle.message_write.proofs.write_key.Goals as goal

pub returns-in_err-key : goal.returns-in_err-key
returns-in_err-key c = passed_on _ _ (search rules) (key_bad c.args.kind c.args.key.now (length c.args.out.now) _ c.in_err-key.ensures)

pub returns : goal.returns
returns c =
    writes_as c.write_two.ensures
    (key_good c.args.kind c.args.key.now (length c.args.out.now) _ c.in_ok-key.ensures _ _ c.rest_head.ensures c.type_byte.ensures)
