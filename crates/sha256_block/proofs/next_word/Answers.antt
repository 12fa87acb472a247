-- `sha256_block::next_word` meets its contract: each sum is that of the definition, and each rotation. Assumes nothing.
use Rattle.sha256_block.specs.Words.{◌⊞◌, SHR, SHL, ROTR, σ0, σ1}
use Rattle.sha256_block.specs.Block.{next_of}
use Rattle.sha256_block.proofs.next_word.Goals as goal

pub returns : goal.returns
unfolding ◌⊞◌ SHR SHL ROTR σ0 σ1 next_of
returns c = cc
