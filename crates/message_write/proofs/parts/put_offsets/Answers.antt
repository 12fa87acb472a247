-- What the check does not find alone of `message_write::parts::put_offsets`; the invariant beside it says how the loop goes. Assumes nothing.
use Prim.Native.Nat.{◌+◌, ◌*◌, ◌<◌, ◌≤◌}
use native.Mathlib.Omega.{arith}
use mathlib.Core.Path.{◌≡◌, refl}
use lib.ListN.{length, get_or, take}
use lib.Seq.{length-take-le, get_or-take}
use borrow.Author.Rules.{rules}
use Rattle.message_write.proofs.Sums.{sum_rise, sum_small}
use Rattle.message_write.proofs.Turns.{offsets_start, offsets_fit, offsets_next, offsets_end}
use Rattle.message_write.proofs.parts.put_offsets.Goals as goal
use Rattle.message_write.proofs.parts.put_offsets.Goals.{In-loop-i}

-- the record is one of them
here : (c : In-loop-i) → c.loop-i.i < c.args.records.now.count
here c =
    let p = c.args.records.now in
    omega (arith, length-take-le p.count p.lens (search rules))

-- its length is that in the array
len : (c : In-loop-i) → get_or (take c.args.records.now.count c.args.records.now.lens) c.loop-i.i 0 ≡ get_or c.args.records.now.lens c.loop-i.i 0
len c = let p = c.args.records.now in get_or-take p.count p.lens c.loop-i.i 0 (here c)

fit : (c : In-loop-i)
    → (c.args.at + 4 * c.loop-i.i + 4 ≤ length c.args.out.now)
    × (c.loop-i.next + get_or c.args.records.now.lens c.loop-i.i 0 ≤ length c.args.out.now)
fit c =
    let p = c.args.records.now in
    offsets_fit p.lens p.count c.args.at c.args.out.now _ _ _ c.loop-i.invariant (here c)

pub loop-i-init : goal.loop-i-init
loop-i-init c = offsets_start _ _ _ _ _ refl c.requires.0.few c.requires.1

pub offset_bytes-requires : goal.offset_bytes-requires
offset_bytes-requires c =
    let p = c.args.records.now in
    omega (arith, sum_rise p.lens c.loop-i.i p.count (omega arith), sum_small p c.requires.0)

pub overflow_add-at : goal.overflow_add-at
overflow_add-at c =
    let f = fit (goal.at.overflow_add-at c).In-loop-i in
    search rules

pub overflow_add-next : goal.overflow_add-next
overflow_add-next c =
    let f = fit (goal.at.overflow_add-next c).In-loop-i in
    let n = len (goal.at.overflow_add-next c).In-loop-i in
    search rules

pub loop-i-preserved : goal.loop-i-preserved
loop-i-preserved c =
    let w = (goal.at.loop-i-preserved c).In-loop-i in
    offsets_next _ _ _ _ _ _ _ c.loop-i.invariant (here w) _ _ _ c.offset_bytes.ensures c.put.ensures.out_after (search rules) _ (omega (arith, len w))

pub returns : goal.returns
returns c =
    let p = c.args.records.now in
    offsets_end _ _ _ _ _ _ _ c.loop-i.invariant (omega (arith, length-take-le p.count p.lens (search rules)))
