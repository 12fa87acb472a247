-- `sha256::hash` meets its contract: the bytes of the state after all blocks. Assumes nothing.
use mathlib.Core.Path.{ap, ◌∙◌}
use Rattle.sha256_block.specs.declared.State.{State}
use Rattle.sha256.specs.Hash.{words_of, word_bytes, sha256}
use Rattle.sha256.proofs.hash.Goals as goal

pub returns : goal.returns
unfolding sha256
returns c = c.digest.ensures ∙ ap (λ (s : State). word_bytes (words_of s)) c.last_blocks.ensures
