-- What the check does not find alone of `routing_table::scans::all_different`; the invariants beside it say how the loop goes. Assumes nothing.
use mathlib.Core.List.{[]}
use native.Mathlib.Omega.{arith}
use mathlib.Core.Path.{refl, sym, ◌∙◌}
use borrow.Author.Rules.{rules}
use Rattle.octets.specs.Equal.{same_bytes}
use Rattle.octets.proofs.Pairs.{clear_start, clear_end, row_start, row_end, row_next, pair_found}
use Rattle.routing_table.proofs.scans.all_different.Goals as goal

pub pairs-init : goal.pairs-init
pairs-init c = (refl, refl, clear_start same_bytes [] _ _ refl _ (omega arith))

pub loop-j-init : goal.loop-j-init
loop-j-init c = (c.pairs.invariant.0, search rules, search rules, row_start same_bytes [] _ _ _ c.pairs.invariant.2 (search rules))

pub loop-j-preserved : goal.loop-j-preserved
loop-j-preserved c =
    (c.loop-j.invariant.0, c.loop-j.invariant.1, c.loop-j.invariant.2, row_next same_bytes [] _ _ _ _ c.loop-j.invariant.3 (search rules) (sym c.same_id.ensures ∙ c.if-same_id.false))

pub pairs-preserved : goal.pairs-preserved
pairs-preserved c = (c.loop-j.invariant.0, c.loop-j.invariant.1, row_end same_bytes [] _ _ _ _ c.loop-j.invariant.3 (search rules))

pub returns-after-pairs : goal.returns-after-pairs
returns-after-pairs c = c.pairs.invariant.0 ∙ sym (clear_end same_bytes [] _ _ _ c.pairs.invariant.2 (search rules))

pub returns-then-same_id : goal.returns-then-same_id
returns-then-same_id c =
    sym (pair_found same_bytes [] _ _ _ _ c.loop-j.invariant.3 (search rules) (sym c.same_id.ensures ∙ c.if-same_id.true))
