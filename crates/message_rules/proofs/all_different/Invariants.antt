-- `message_rules::all_different` meets its contract. The invariant: the answer on all bytes is that of the pass with the flags on the rest, by the laws of
-- `Flags`. Assumes nothing.
use mathlib.Core.Path.{◌≡◌}
use lib.Dec.{eqb}
use lib.ListN.{length, drop}
use Rattle.message.specs.Rules.{all_different}
use Rattle.message_rules.proofs.Flags.{fresh}
use Rattle.message_rules.proofs.all_different.Given as goal

abbrev pub invariant-loop-byte : goal.invariant-loop-byte
invariant-loop-byte l = (length l.seen ≡ 256) × (all_different eqb l.bytes ≡ fresh l.seen (drop l.byte-index l.bytes))
