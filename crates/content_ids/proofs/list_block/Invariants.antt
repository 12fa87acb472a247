-- `content_ids::list_block` is safe and ends: each call of `list` uses some of what is left of the block, since the buffer takes a longest
-- line. Assumes nothing.
use Rattle.std.proofs.Common.{◌≡◌, length}
use Rattle.content_ids.proofs.list_block.Given as goal

abbrev pub invariant-loop-rest : goal.invariant-loop-rest
invariant-loop-rest g l = length l.out ≡ length l.initial.out

abbrev pub decreases-loop-rest : goal.decreases-loop-rest
decreases-loop-rest g l = length l.rest
