-- `round_words` meets its contract, the rule of the table: what the definition computes of the first 64 primes is what the code has, word for
-- word. Assumes nothing.
use mathlib.Core.Path.{refl}
use Rattle.sha256_tables.specs.Roots.{root_from, root_of, root_bits}
use Rattle.sha256_tables.proofs.Listed.{primes_are}
use Rattle.sha256_tables.proofs.round_words.Goals as goal

pub returns : goal.returns
unfolding root_from root_of root_bits
returns c = rw primes_are refl
