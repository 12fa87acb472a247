-- What the check does not find alone of `message_rules::some_equal`; the invariants beside it say how the loop goes. Assumes nothing.
use mathlib.Core.Path.{refl, ◌∙◌}
use borrow.Author.Rules.{rules}
use Rattle.octets.proofs.Equal.{same_pointwise}
use Rattle.message_rules.proofs.Pairs.{clear_start, clear_end, row_end, row_next, pair_found}
use Rattle.message_rules.proofs.some_equal.Goals as goal

pub pairs-init : goal.pairs-init
pairs-init c = (refl, clear_start _ _)

pub loop-j-preserved : goal.loop-j-preserved
loop-j-preserved c =
    (c.loop-j.invariant.0, row_next _ _ _ _ c.loop-j.invariant.1 (search rules) _ (c.eq.ensures ∙ same_pointwise _ _) c.if-eq.false)

pub pairs-preserved : goal.pairs-preserved
pairs-preserved c = (c.loop-j.invariant.0, row_end _ _ _ _ c.loop-j.invariant.1 (search rules))

pub returns-after-pairs : goal.returns-after-pairs
returns-after-pairs c = c.pairs.invariant.0 ∙ clear_end _ _ _ c.pairs.invariant.1 (search rules)

pub returns-then-eq : goal.returns-then-eq
returns-then-eq c =
    pair_found _ _ _ _ c.loop-j.invariant.1 (search rules) _ (c.eq.ensures ∙ same_pointwise _ _) c.if-eq.true _ refl
