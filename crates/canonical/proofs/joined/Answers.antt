-- `canonical::joined` meets its contract: by the index's lowest bit the node is the one half or the other. Assumes nothing.
use borrow.Author.Rules.{rules}
use Rattle.canonical.proofs.Paths.{joined_even, joined_odd}
use Rattle.canonical.proofs.joined.Goals as goal

pub returns-then-index-eq0 : goal.returns-then-index-eq0
returns-then-index-eq0 c = joined_even _ _ _ _ _ _ c.parent.ensures (search rules) (search rules) (search rules)

pub returns-else-index-eq0 : goal.returns-else-index-eq0
returns-else-index-eq0 c = joined_odd _ _ _ _ _ _ c.parent-else-index-eq0.ensures (search rules) (search rules) (search rules)
