-- `sha256_block::added` meets its contract, word by word. Assumes nothing.
use Rattle.std.proofs.Common.{refl}
use Rattle.sha256_block.specs.Words.{◌⊞◌}
use Rattle.sha256_block.specs.Block.{sums}
use Rattle.sha256_block.proofs.added.Goals as goal

pub returns : goal.returns
unfolding sums ◌⊞◌
returns c = refl
