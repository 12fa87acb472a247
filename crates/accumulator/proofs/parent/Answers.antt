-- `accumulator::parent` meets its contract: what is hashed is the one half and then the other. Assumes nothing.
use borrow.Author.Rules.{rules}
use Rattle.accumulator.proofs.Trees.{parent_made}
use Rattle.accumulator.proofs.parent.Goals as goal

pub returns : goal.returns
returns c = parent_made _ _ _ _ c.hash.ensures (search rules)
