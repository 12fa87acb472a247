-- `canonical::canonical` meets its contract: the tests in their order, and then the two roots. Assumes nothing.
use Prim.Native.Nat.{◌/◌, ◌<◌}
use native.Mathlib.Omega.{arith}
use mathlib.Core.Path.{◌≡◌, sym, ◌∙◌}
use mathlib.Core.Bool.{true}
use lib.ListN.{length}
use Rattle.accumulator.specs.Verdict.{epoch_of, lengths_good}
use Rattle.canonical.proofs.Answers.{right_lengths, wrong_length, no_epoch, computed_is, wanted_is, judged}
use borrow.Author.Rules.{rules}
use Rattle.canonical.proofs.canonical.Goals as goal
use Rattle.canonical.proofs.canonical.Goals.{Else-not-lengths_good}

-- the lengths are right
good : (c : Else-not-lengths_good) → lengths_good c.args.hash.now c.args.proof.now c.args.roots.now ≡ true
good c = sym c.lengths_good.ensures ∙ c.if-not-lengths_good.false

pub returns-then-not-lengths_good : goal.returns-then-not-lengths_good
returns-then-not-lengths_good c = wrong_length _ _ _ _ (sym c.lengths_good.ensures ∙ c.if-not-lengths_good.true) _ (search rules)

pub returns-then-epochs-epoch : goal.returns-then-epochs-epoch
returns-then-epochs-epoch c =
    no_epoch _ _ _ _ (good (goal.at.returns-then-epochs-epoch c).Else-not-lengths_good) (omega (arith, c.if-epochs-epoch.true)) _ (search rules)

pub root_along-computed-requires : goal.root_along-computed-requires
root_along-computed-requires c = (right_lengths 0 _ _ _ (good (goal.at.root_along-computed-requires c).Else-not-lengths_good)).1

pub returns : goal.returns
returns c =
    let a = c.args in
    let g : lengths_good a.hash.now a.proof.now a.roots.now ≡ true = good (goal.at.returns c).Else-not-lengths_good in
    let l : epoch_of a.number < length a.roots.now / 32 = omega (arith, c.if-epochs-epoch.false) in
    judged _ _ _ _ g l c.root_along-computed.result c.part-wanted.result _ (search rules)
    (computed_is _ _ _ _ g l _ _ _ c.root_along-computed.ensures (omega arith) c.part-leaf.ensures)
    (wanted_is _ _ _ _ g l _ _ c.part-wanted.ensures (omega arith))
