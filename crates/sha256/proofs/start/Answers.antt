-- `sha256::start` meets its contract. Assumes nothing.
use mathlib.Core.Path.{ap}
use Rattle.sha256.specs.Hash.{state_of}
use Rattle.sha256.proofs.start.Goals as goal

pub returns : goal.returns
unfolding state_of
returns c = ap state_of c.start_words.ensures
