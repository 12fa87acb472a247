-- `sha256::ended_block` meets its contract. Assumes nothing.
use borrow.Author.Rules.{rules}
use Rattle.sha256.proofs.Written.{ended_block}
use Rattle.sha256.proofs.ended_block.Goals as goal

pub returns : goal.returns
returns c = let a = c.args in ended_block a.block a.count _ (search rules) (search rules) c.put.ensures.out_after
