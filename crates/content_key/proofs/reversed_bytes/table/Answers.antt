-- `reversed_bytes::table` meets its contract, the rule of the table: what the definition computes over all 256 places is what the code
-- has there, entry for entry. Assumes nothing.
use mathlib.Core.Path.{refl}
use Rattle.octets.specs.Table.{numbers_from}
use Rattle.content_key.specs.Id.{reverse_bits}
use Rattle.content_key.proofs.reversed_bytes.table.Goals as goal

pub returns : goal.returns
unfolding numbers_from reverse_bits
returns c = refl
