-- `sha256_block::first_sum` meets its contract: each sum is that of the definition, and so are the rotations and the choice. Assumes nothing.
use Rattle.sha256_block.specs.Words.{◌⊞◌, SHR, SHL, ROTR, NOT, Ch, Σ1}
use Rattle.sha256_block.specs.Block.{T1}
use Rattle.sha256_block.proofs.first_sum.Goals as goal

pub returns : goal.returns
unfolding ◌⊞◌ SHR SHL ROTR NOT Ch Σ1 T1
returns c = cc
