-- What the check does not find alone of `message_records::places`; the invariants beside it say how the loop goes. Assumes nothing.
use Prim.Native.Nat.{◌≤◌}
use native.Mathlib.Omega.{arith}
use lib.ListN.{length}
use borrow.Author.Rules.{rules}
use Rattle.message_records.proofs.Offsets.{offsets_rise}
use Rattle.message_records.proofs.Filled.{filled_more, placed}
use Rattle.message_records.proofs.places.Goals as goal
use Rattle.message_records.proofs.places.Goals.{After-offset_at-next}

-- the two offsets rise, and do not pass the size
rise : (c : After-offset_at-next)
    → (c.offset_at-start.result ≤ c.offset_at-next.result) × (c.offset_at-next.result ≤ length c.args.list.now)
rise c =
    let r = offsets_rise c.args.list.now c.args.count c.loop-i.i c.requires.in_order (search rules) in
    (omega arith, omega arith)

pub overflow_add-starts : goal.overflow_add-starts
overflow_add-starts c = let r = rise c in search rules

pub overflow_sub-lens : goal.overflow_sub-lens
overflow_sub-lens c = omega (arith, rise c)

pub loop-i-preserved : goal.loop-i-preserved
loop-i-preserved c =
    let here = c.offset_at-start.ensures in
    let next = c.offset_at-next.ensures in (
      filled_more _ c.loop-i.i _ (search rules) c.loop-i.invariant.0 _ (omega (arith, here)),
      filled_more _ c.loop-i.i _ (search rules) c.loop-i.invariant.1 _ (omega (arith, here, next)),
    )

pub returns : goal.returns
returns c = placed _ _ _ (search rules) _ _ c.loop-i.i (search rules) c.loop-i.invariant.0 c.loop-i.invariant.1
