-- What the check does not find alone of `sha256::whole_blocks`; the invariants beside it say how the loop goes. Assumes nothing.
use borrow.Author.Rules.{rules}
use Prim.Native.Nat.{◌/◌}
use mathlib.Core.Path.{◌≡◌, ap, ◌∙◌}
use lib.ListN.{length}
use Rattle.sha256.specs.Hash.{pad, after}
use Rattle.sha256.proofs.Chain.{inside_more}
use Rattle.sha256.proofs.whole_blocks.Goals as goal

pub loop-block-init : goal.loop-block-init
unfolding after
loop-block-init c = c.start-state.ensures

pub loop-block-preserved : goal.loop-block-preserved
loop-block-preserved c =
    inside_more c.args.message.now _ c.as_chunks.ensures.front c.loop-block.block-index c.loop-block.state _ (search rules) c.loop-block.invariant c.compress-state.ensures

pub returns : goal.returns
returns c =
    let m = c.args.message.now in
    let all : c.loop-block.block-index ≡ length m / 64 = search rules in
    c.loop-block.invariant ∙ ap (after (pad m)) all
