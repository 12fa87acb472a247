-- What the check does not find alone of `nodes::write`; the invariants beside it say how the loop goes. Assumes nothing.
use Prim.Native.Nat.{ℕ, ◌+◌, ◌-◌, ◌≤◌, ◌<◌}
use native.Mathlib.Omega.{arith}
use mathlib.Core.Path.{refl}
use mathlib.Core.List.{List}
use lib.ListN.{length}
use borrow.Author.Rules.{rules}
use Rattle.message_read.proofs.Lists.{part_rest}
use Rattle.replies.specs.Groups.{groups}
use Rattle.replies.specs.Nodes.{nodes_fit}
use Rattle.reply.specs.Ready.{Small, lent_in}
use Rattle.reply.proofs.Lends.{Lends, lent_lends, lends_lengths, lends_even}
use Rattle.reply.proofs.Taking.{of_length}
use Rattle.reply.proofs.Spreading.{small_left, small_of, part_inside, Next, next}
use Rattle.reply.proofs.Sending.{sending_start, sending_at, sending_next, sending_end, few_messages, sending_length, group_room, one_written}
use Rattle.reply.proofs.nodes.write.Goals as goal
use Rattle.reply.proofs.nodes.write.Goals.{After-first-group, In-loop-i}

abbrev records : In-loop-i → List (List ℕ)
records c = lent_in c.args.bytes.now c.args.starts.now c.args.lens.now

lends : (c : In-loop-i) → Lends c.args.bytes.now c.args.starts.now c.args.lens.now (records c)
lends c = lent_lends _ _ _ _ c.requires.lends

small : (c : In-loop-i) → Small c.args.lens.now
small c = small_of _ _ (lends_lengths (lends c)) c.requires.fair.sizes

inside : (c : In-loop-i) → c.loop-i.from ≤ length c.args.lens.now
inside c = omega (arith, c.loop-i.invariant.inside, of_length c.args.lens.now (records c) (lends_lengths (lends c)))

few : (c : In-loop-i) → c.args.count ≤ 33
few c = omega (arith, c.requires.number, few_messages (records c) c.requires.fair)

upto : (c : After-first-group) → c.loop-i.from + c.first-group.result.taken ≤ length c.args.lens.now
upto c =
    let a = c.args in
    let r = lent_in a.bytes.now a.starts.now a.lens.now in
    let l : Lends a.bytes.now a.starts.now a.lens.now r = lent_lends _ _ _ _ c.requires.lends in
    let i : c.loop-i.from ≤ length a.lens.now = omega (arith, c.loop-i.invariant.inside, of_length a.lens.now r (lends_lengths l)) in
    part_inside a.lens.now c.loop-i.from c.first-group.result.taken i c.first-group.ensures.inside

less : (c : In-loop-i) → c.loop-i.i < length (groups nodes_fit (records c))
less c = omega (arith, c.requires.number)

-- the group of this turn
turned : (c : After-first-group) → Next (lent_in c.args.bytes.now c.args.starts.now c.args.lens.now) c.loop-i.from c.first-group.result
turned c =
    let a = c.args in
    let r = lent_in a.bytes.now a.starts.now a.lens.now in
    let l : Lends a.bytes.now a.starts.now a.lens.now r = lent_lends _ _ _ _ c.requires.lends in
    let i : c.loop-i.from ≤ length a.lens.now = omega (arith, c.loop-i.invariant.inside, of_length a.lens.now r (lends_lengths l)) in
    next a.lens.now c.loop-i.from _ (part_rest a.lens.now c.loop-i.from) _ (omega arith) _ c.first-group.ensures r (lends_lengths l)

pub loop-i-init : goal.loop-i-init
loop-i-init c = sending_start _ _

pub slice_bounds-first-count : goal.slice_bounds-first-count
slice_bounds-first-count c = inside c

pub slice_bounds-first-start : goal.slice_bounds-first-start
slice_bounds-first-start c = let i = inside c in search rules

pub slice_bounds-first-end : goal.slice_bounds-first-end
slice_bounds-first-end c = let i = inside c in search rules

pub first-group-requires : goal.first-group-requires
first-group-requires c =
    (omega arith, small_left c.args.lens.now c.loop-i.from (inside (goal.at.first-group-requires c).In-loop-i) (small (goal.at.first-group-requires c).In-loop-i) _ (part_rest c.args.lens.now c.loop-i.from))

pub overflow_add-to : goal.overflow_add-to
overflow_add-to c = let i = inside (goal.at.overflow_add-to c).In-loop-i in omega (arith, c.first-group.ensures.few)

pub overflow_cast-count : goal.overflow_cast-count
overflow_cast-count c = let n = few (goal.at.overflow_cast-count c).In-loop-i in omega arith

pub offset_bounds-starts-from : goal.offset_bounds-starts-from
offset_bounds-starts-from c = let i = inside (goal.at.offset_bounds-starts-from c).In-loop-i in search rules

pub slice_bounds-write_found_nodes-count : goal.slice_bounds-write_found_nodes-count
slice_bounds-write_found_nodes-count c = omega arith

pub slice_bounds-write_found_nodes-start : goal.slice_bounds-write_found_nodes-start
slice_bounds-write_found_nodes-start c = omega arith

pub slice_bounds-write_found_nodes-end : goal.slice_bounds-write_found_nodes-end
slice_bounds-write_found_nodes-end c = let n = upto (goal.at.slice_bounds-write_found_nodes-end c).After-first-group in let e = lends_even (lends (goal.at.slice_bounds-write_found_nodes-end c).In-loop-i) in search rules

pub offset_bounds-lens-from-in-loop-i : goal.offset_bounds-lens-from-in-loop-i
offset_bounds-lens-from-in-loop-i c = let i = inside (goal.at.offset_bounds-lens-from-in-loop-i c).In-loop-i in search rules

pub slice_bounds-write_found_nodes-count-in-loop-i : goal.slice_bounds-write_found_nodes-count-in-loop-i
slice_bounds-write_found_nodes-count-in-loop-i c = omega arith

pub slice_bounds-write_found_nodes-start-in-loop-i : goal.slice_bounds-write_found_nodes-start-in-loop-i
slice_bounds-write_found_nodes-start-in-loop-i c = omega arith

pub slice_bounds-write_found_nodes-end-in-loop-i : goal.slice_bounds-write_found_nodes-end-in-loop-i
slice_bounds-write_found_nodes-end-in-loop-i c = let n = upto (goal.at.slice_bounds-write_found_nodes-end-in-loop-i c).After-first-group in search rules

pub slice_bounds-write_found_nodes-count-in-loop-i-2 : goal.slice_bounds-write_found_nodes-count-in-loop-i-2
slice_bounds-write_found_nodes-count-in-loop-i-2 c = sending_at _ _ _ _ _ _ _ c.loop-i.invariant

pub slice_bounds-write_found_nodes-start-in-loop-i-2 : goal.slice_bounds-write_found_nodes-start-in-loop-i-2
slice_bounds-write_found_nodes-start-in-loop-i-2 c = sending_at _ _ _ _ _ _ _ c.loop-i.invariant

pub slice_bounds-write_found_nodes-end-in-loop-i-2 : goal.slice_bounds-write_found_nodes-end-in-loop-i-2
slice_bounds-write_found_nodes-end-in-loop-i-2 c = omega arith

pub offset_bounds-sizes-i : goal.offset_bounds-sizes-i
offset_bounds-sizes-i c = let n = few (goal.at.offset_bounds-sizes-i c).In-loop-i in omega arith

pub bounds-sizes-i : goal.bounds-sizes-i
bounds-sizes-i c = let n = few (goal.at.bounds-sizes-i c).In-loop-i in omega arith

pub overflow_add-at : goal.overflow_add-at
overflow_add-at c =
    let room = group_room _ c.requires.fair _ _ _ _ _ _ c.loop-i.invariant (less (goal.at.overflow_add-at c).In-loop-i) _ (turned (goal.at.overflow_add-at c).After-first-group) c.requires.room in
    omega (arith, c.well_formed)

pub overflow_step-i : goal.overflow_step-i
overflow_step-i c = let n = few (goal.at.overflow_step-i c).In-loop-i in omega arith

pub loop-i-smaller : goal.loop-i-smaller
loop-i-smaller c = omega arith

pub loop-i-preserved : goal.loop-i-preserved
loop-i-preserved c =
    sending_next _ c.requires.fair _ _ _ _ _ _ c.loop-i.invariant (less (goal.at.loop-i-preserved c).In-loop-i) _ (turned (goal.at.loop-i-preserved c).After-first-group) c.requires.room (few_messages _ c.requires.fair)
    _ _ _ _ _ refl (omega arith) (omega arith) (omega arith)
    (one_written _ c.requires.fair _ _ _ _ _ _ c.loop-i.invariant (less (goal.at.loop-i-preserved c).In-loop-i) _ (turned (goal.at.loop-i-preserved c).After-first-group) c.requires.room
    c.args.bytes.now c.args.starts.now c.args.lens.now _ c.args.count
    (c.loop-i.from + c.first-group.result.taken - c.loop-i.from) _ (lends (goal.at.loop-i-preserved c).In-loop-i) (omega (arith, c.requires.number)) (omega arith)
    c.write_found_nodes.ensures)

pub shape_of-out : goal.shape_of-out
shape_of-out c =
    sending_length _ c.requires.fair _ _ _ _ _ _ c.loop-i.invariant c.requires.room

pub returns : goal.returns
returns c =
    sending_end _ c.requires.fair _ _ _ _ _ _ c.loop-i.invariant (omega (arith, c.requires.number))
