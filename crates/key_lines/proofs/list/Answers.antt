-- What the check does not find alone of `key_lines::list`; the invariants beside it say how the loop goes. Assumes nothing.
use native.Mathlib.Omega.{arith}
use mathlib.Core.Path.{◌≡◌, refl, ap, ◌∙◌}
use lib.Seq.{length-take-le}
use lib.ListN.{length}
use borrow.Author.Rules.{rules}
use Rattle.key_lines.proofs.Answers.{padded_front}
use Rattle.key_lines.proofs.Turns.{start, end_inside, grown, ended, done}
use Rattle.key_lines.proofs.list.Goals as goal

pub loop-at-init : goal.loop-at-init
loop-at-init c = start _ _ _

pub slice_bounds-feed-end : goal.slice_bounds-feed-end
slice_bounds-feed-end c =
    let inside = end_inside _ _ _ _ _ _ _ c.loop-at.invariant _ c.line_end-end.ensures in
    search rules

pub loop-at-preserved-then-end-input : goal.loop-at-preserved-then-end-input
loop-at-preserved-then-end-input c =
    let printed = c.finish-printed in
    let long : length printed.result.text ≡ 65 = search rules in
    let shown = c.line-shown.ensures in
    ended _ _ _ _ _ _ _ c.loop-at.invariant _ c.line_end-end.ensures _ c.feed-line.ensures c.if-end-input.true
    (omega (arith, c.if-out-written-lt65.false, c.loop-at.invariant))
    _ (omega (arith, ap length shown, length-take-le printed.result.len printed.result.text (omega (arith, printed.ensures.len_bound))))
    (λ text b. shown ∙ padded_front _ _ (printed.ensures.by_index text b)) _
    c.put.ensures.out_after (search rules) _ refl _ c.fresh-line.ensures

pub loop-at-preserved : goal.loop-at-preserved
loop-at-preserved c =
    grown _ _ _ _ _ _ _ c.loop-at.invariant _ c.line_end-end.ensures _ c.feed-line.ensures

pub returns-after-loop-at : goal.returns-after-loop-at
returns-after-loop-at c = done _ _ _ _ _ _ _ c.loop-at.invariant (λ h. absurd (omega (arith, c.loop-at-test.false)))

pub returns-then-out-written-lt65 : goal.returns-then-out-written-lt65
returns-then-out-written-lt65 c =
    done _ _ _ _ _ _ _ c.loop-at.invariant (λ h. search rules)
