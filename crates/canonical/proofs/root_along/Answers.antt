-- What the check does not find alone of `canonical::root_along`; the invariants beside it say how the loop goes. Assumes nothing.
use mathlib.Core.Path.{ap, ◌∙◌}
use borrow.Author.Rules.{rules}
use Rattle.accumulator.specs.Tree.{root_along}
use Rattle.canonical.proofs.Paths.{step, last, parts_are}
use Rattle.canonical.proofs.root_along.Goals as goal

pub loop-sibling-preserved : goal.loop-sibling-preserved
loop-sibling-preserved c =
    step _ c.loop-sibling.sibling-index c.loop-sibling.index (search rules) c.loop-sibling.node _ _ (search rules) c.joined-above.ensures ∙ c.loop-sibling.invariant

pub returns : goal.returns
returns c =
    last _ c.loop-sibling.sibling-index c.loop-sibling.index c.loop-sibling.node _ (search rules) c.loop-sibling.invariant _
    (ap (root_along c.args.index c.args.leaf) (parts_are _ _ c.as_chunks.ensures.front (search rules)))
