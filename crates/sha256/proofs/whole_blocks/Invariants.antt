-- `sha256::whole_blocks` meets its contract. The invariant: the state is that after the blocks so far. Assumes nothing.
use mathlib.Core.Path.{◌≡◌}
use Rattle.sha256.specs.Hash.{pad, after}
use Rattle.sha256.proofs.whole_blocks.Given as goal

abbrev pub invariant-loop-block : goal.invariant-loop-block
invariant-loop-block l = l.state ≡ after (pad l.message) l.block-index
