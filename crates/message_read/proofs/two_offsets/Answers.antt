-- `message_read::two_offsets` meets its contract: each test is one of the definition, in its order. Assumes nothing.
use mathlib.Core.Path.{◌∙◌}
use borrow.Author.Rules.{rules}
use borrow.Author.Tests.{lt-leb}
use Rattle.message_read.proofs.Found.{two_short, two_first, two_second, two_tested}
use Rattle.message_read.proofs.two_offsets.Goals as goal

pub returns-then-message-lt13 : goal.returns-then-message-lt13
returns-then-message-lt13 c = two_short c.args.message.now (search rules)

pub returns-then-offset-ne12 : goal.returns-then-offset-ne12
returns-then-offset-ne12 c = two_first c.args.message.now (search rules) c.offset.ensures.0 (search rules)

pub returns-then-second-ge12 : goal.returns-then-second-ge12
returns-then-second-ge12 c =
    two_tested c.args.message.now (search rules) c.offset.ensures.0 (search rules) c.offset-second.ensures.0 (search rules)

pub returns-else-second-ge12 : goal.returns-else-second-ge12
returns-else-second-ge12 c =
    lt-leb 12 c.offset-second.result (search rules)
    ∙ two_second c.args.message.now (search rules) c.offset.ensures.0 (search rules) c.offset-second.ensures.0 (search rules)
