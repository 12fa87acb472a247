-- `sha256_block::one_round` meets its contract, word by word. Assumes nothing.
use Rattle.sha256_block.specs.Words.{◌⊞◌}
use Rattle.sha256_block.specs.Block.{round}
use Rattle.sha256_block.proofs.one_round.Goals as goal

pub returns : goal.returns
unfolding round ◌⊞◌
returns c = cc
