-- `sha256_block::opening_whole` meets its contract. The invariant: the words so far are those of the block, and the others zeros. Assumes nothing.
use Rattle.std.proofs.Common.{◌≡◌, ◌-◌, ◌++◌, replicate}
use Rattle.sha256_block.specs.Block.{first_words}
use Rattle.sha256_block.proofs.opening_whole.Given as goal

abbrev pub invariant-loop-t : goal.invariant-loop-t
invariant-loop-t l = l.words ≡ first_words l.block l.t ++ replicate (64 - l.t) 0
