-- `KeyIndex::fresh` meets its contract: no keys are listed, whatever the array has. Assumes nothing.
use mathlib.Core.Path.{refl}
use Rattle.key_index.specs.View.{chunks}
use Rattle.key_index.proofs.KeyIndex.fresh.Goals as goal

pub returns : goal.returns
unfolding chunks
returns c = refl
