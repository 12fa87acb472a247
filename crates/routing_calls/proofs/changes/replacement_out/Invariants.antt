-- `routing_calls::changes::replacement_out` meets its contract. The invariant: the replacements behind the place are moved up, as far as
-- i (`proofs/Closed.antt`), and the rest of the table is as it was; a turn moves one more. Assumes nothing.
use mathlib.Core.Path.{◌≡◌}
use lib.ListN.{length}
use Rattle.routing_calls.specs.Arrays.{closed, table_replacements}
use Rattle.routing_calls.proofs.changes.replacement_out.Given as goal

abbrev pub invariant-loop-i : goal.invariant-loop-i
invariant-loop-i l =
    let t = l.initial.table in
    (length l.table.replacements ≡ length t.replacements) × (l.table ≡ table_replacements t t.waiting (closed l.at l.i t.replacements))
