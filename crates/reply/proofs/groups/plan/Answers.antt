-- What the check does not find alone of `groups::plan`; the invariants beside it say how the loop goes. Assumes nothing.
use native.Mathlib.Omega.{arith}
use mathlib.Core.Path.{refl}
use Rattle.message_read.proofs.Lists.{part_rest}
use Rattle.reply.proofs.Spreading.{small_left, spread_start, spread_some, spread_next, spread_end}
use Rattle.reply.proofs.groups.plan.Goals as goal

pub first-group-requires : goal.first-group-requires
first-group-requires c = (omega arith, c.requires.1)

pub loop-from-init : goal.loop-from-init
loop-from-init c = spread_start _ c.requires.1 _ refl _ (omega arith) _ c.first-group.ensures _ (omega arith)

pub first-next-requires : goal.first-next-requires
first-next-requires c =
    let lens = c.args.lens.now in
    (omega arith, small_left lens c.loop-from.from c.loop-from.invariant.inside c.requires.1 _ (part_rest lens c.loop-from.from))

pub overflow_add-from : goal.overflow_add-from
overflow_add-from c =
    omega (arith, c.first-next.ensures.few, c.loop-from.invariant.inside)

pub overflow_add-count : goal.overflow_add-count
overflow_add-count c =
    omega (arith, c.loop-from.invariant.few, c.loop-from.invariant.inside)

pub overflow_add-size : goal.overflow_add-size
overflow_add-size c =
    omega (arith, c.first-next.ensures.small, c.loop-from.invariant.small, c.loop-from.invariant.few, c.loop-from.invariant.inside)

pub loop-from-smaller : goal.loop-from-smaller
loop-from-smaller c =
    omega (
      arith,
      spread_some _ c.requires.1 _ _ _ c.loop-from.invariant (omega arith) _ (part_rest _ c.loop-from.from) _ (omega arith) _ c.first-next.ensures,
    )

pub loop-from-preserved : goal.loop-from-preserved
loop-from-preserved c =
    spread_next _ c.requires.1 _ _ _ c.loop-from.invariant (omega arith) _ (part_rest _ c.loop-from.from) _ (omega arith) _ c.first-next.ensures

pub returns : goal.returns
returns c = spread_end _ c.requires.1 _ _ _ c.loop-from.invariant (omega arith) _ refl refl
