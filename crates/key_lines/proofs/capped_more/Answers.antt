-- `key_lines::capped_more` meets its contract: the two cases are laws of the capped length.
-- Assumes nothing.
use Rattle.key_lines.proofs.Lengths.{longer_below, longer_at}
use borrow.Author.Rules.{rules}
use Rattle.key_lines.proofs.capped_more.Goals as goal

pub returns-then-len-lt20 : goal.returns-then-len-lt20
returns-then-len-lt20 c = λ n e. longer_below _ n (search rules) e

pub returns-else-len-lt20 : goal.returns-else-len-lt20
returns-else-len-lt20 c = λ n e. longer_at _ n _ (search rules) e (search rules)
