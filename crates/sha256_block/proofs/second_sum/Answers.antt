-- `sha256_block::second_sum` meets its contract: the sum is that of the definition, and so are the rotations and the majority. Assumes nothing.
use Rattle.sha256_block.specs.Words.{◌⊞◌, SHR, SHL, ROTR, Maj, Σ0}
use Rattle.sha256_block.specs.Block.{T2}
use Rattle.sha256_block.proofs.second_sum.Goals as goal

pub returns : goal.returns
unfolding ◌⊞◌ SHR SHL ROTR Maj Σ0 T2
returns c = cc
