-- `message_write::write_store` meets its contract: exactly one thing is present, and the fixed part and the content are the message's bytes. Assumes
-- nothing.
use native.Mathlib.Omega.{arith}
use lib.ListN.{length}
use Rattle.refusal.specs.declared.Refusal.TheVariants.{ItemRule}
use Rattle.message_write.proofs.Answers.{refused_writes, writes_as}
use Rattle.message_write.proofs.Shapes.{store_bad, store_good}
use Rattle.message_write.proofs.write_store.Goals as goal

pub returns-then-things-ne1 : goal.returns-then-things-ne1
returns-then-things-ne1 c =
    refused_writes ItemRule c.args.out.now
    (store_bad c.args.connection c.args.content.now (length c.args.out.now) c.things.result (omega (arith, c.things.ensures)) (λ e. omega arith))

pub returns : goal.returns
returns c =
    writes_as c.write_two.ensures
    (store_good c.args.connection c.args.content.now (length c.args.out.now) c.things.result (omega (arith, c.things.ensures)) (omega arith) _ c.store_head.ensures)
