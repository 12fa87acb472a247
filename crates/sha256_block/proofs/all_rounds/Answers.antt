-- What the check does not find alone of `sha256_block::all_rounds`; the invariants beside it say how the loop goes. Assumes nothing.
use Rattle.std.proofs.Common.{rules, ◌∙◌, sym, ap}
use mathlib.Core.Logic.{⊎_elim, inl, inr}
use Rattle.sha256_block.specs.Block.{rounds}
use Rattle.sha256_block.proofs.Turns.{parts_more, parts_end, eight_parts}
use Rattle.sha256_block.proofs.all_rounds.Goals as goal

pub loop-ks-preserved : goal.loop-ks-preserved
loop-ks-preserved c =
    let steps = c.in-Some.ensures.steps in
    c.loop-ks.invariant ∙ parts_more _ _ _ _ _ _ _ _ steps.0 steps.1 (search rules)

pub returns : goal.returns
returns c =
    let left = c.loop-ks.ks-iterator in
    parts_end left.a.rest.now left.b.rest.now _ (⊎_elim (λ w. inl w.1.0) (λ w. inr w.1.0) c.in-None.ensures.steps)
    ∙ sym c.loop-ks.invariant
    ∙ eight_parts c.round_words-constants.result c.args.words.now c.into_iter-ks-iterator.result.a.rest.now c.into_iter-ks-iterator.result.b.rest.now c.args.state (search rules) (search rules) (search rules) (search rules)
    ∙ ap (λ ks. rounds ks c.args.words.now 0 c.args.state 64) c.round_words-constants.ensures
