-- `message_read::rest` meets its contract: the test of the length, and then that of the offset. Assumes nothing.
use Prim.Native.Nat.{◌+◌}
use borrow.Author.Rules.{rules}
use Rattle.message_read.proofs.Lists.{part_rest}
use Rattle.message_read.proofs.Shapes.{rest_short, rest_bad, rest_good}
use Rattle.message_read.proofs.rest.Goals as goal
use Rattle.message_read.proofs.rest.Goals.{then-message-n, else-message-n}

pub returns-then-offset-n : goal.returns-then-offset-n
returns-then-offset-n c =
    elim c.if-message-n.branch [
      | then-message-n w ↦ rest_short _ _ (search rules) (search rules)
      | else-message-n w ↦ rest_bad _ _ (search rules) (search rules) _ w.offset.ensures.0 (search rules)
    ]

pub returns-else-offset-n : goal.returns-else-offset-n
returns-else-offset-n c =
    elim c.if-message-n.branch [
      | then-message-n w ↦ absurd (search rules)
      | else-message-n w ↦
          rest_good _ _ (search rules) (search rules) _ w.offset.ensures.0 (search rules) _ (part_rest c.args.message.now (c.args.n + 1))
    ]
