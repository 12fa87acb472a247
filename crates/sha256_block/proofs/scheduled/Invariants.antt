-- `sha256_block::scheduled` meets its contract. The invariant: the words so far are those of the schedule, and the others zeros.
-- Assumes nothing.
use Rattle.std.proofs.Common.{◌≡◌, ◌-◌, ◌++◌, replicate}
use Rattle.sha256_block.specs.Block.{schedule}
use Rattle.sha256_block.proofs.scheduled.Given as goal

abbrev pub invariant-loop-n : goal.invariant-loop-n
invariant-loop-n l = l.words ≡ schedule l.block l.n ++ replicate (48 - l.n) 0
