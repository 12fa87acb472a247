-- `message_write::parts::write_list` meets its contract: the size decides, and then the parts stand one behind the other. Assumes nothing.
use Prim.Native.Nat.{◌+◌}
use native.Mathlib.Omega.{arith}
use lib.ListN.{length}
use borrow.Author.Rules.{rules}
use Rattle.message_write.proofs.Answers.{Accepted, passed_on}
use Rattle.message_write.proofs.Wholes.{whole_refused, whole_room, whole_wrote}
use Rattle.message_write.proofs.parts.write_list.Goals as goal
use Rattle.message_write.proofs.parts.write_list.Goals.{In_ok-size}

-- the whole fits the buffer
room : (c : In_ok-size)
    → Accepted c.in_ok-size.size (length c.args.head.now + c.list_size-list.result + length c.args.rest.now) (length c.args.out.now)
room c =
    let a = c.args in
    whole_room a.head.now a.bytes.now a.records.now a.rest.now a.out.now c.requires.1.inside _ c.list_size-list.ensures.0 _ c.in_ok-size.ensures

pub list_size-list-requires : goal.list_size-list-requires
list_size-list-requires c = c.requires.1.small

pub returns-in_err-size : goal.returns-in_err-size
returns-in_err-size c =
    let a = c.args in
    passed_on _ _ (search rules)
    (whole_refused a.head.now a.bytes.now a.records.now a.rest.now a.out.now c.requires.1.inside _ c.list_size-list.ensures.0 _ c.in_err-size.ensures)

pub put_offsets-requires : goal.put_offsets-requires
put_offsets-requires c =
    let r = room (goal.at.put_offsets-requires c).In_ok-size in
    let list = c.list_size-list.ensures.0 in
    (c.requires.1.small, omega (arith, r.fits))

pub put_records-requires : goal.put_records-requires
put_records-requires c =
    let r = room (goal.at.put_records-requires c).In_ok-size in
    let list = c.list_size-list.ensures.0 in
    (c.requires.1, omega (arith, r.fits, c.put_offsets.ensures.kept))

pub returns : goal.returns
returns c =
    let a = c.args in
    whole_wrote a.head.now a.bytes.now a.records.now a.rest.now a.out.now c.requires.1.inside _ c.list_size-list.ensures.0 _ c.in_ok-size.ensures
    _ _ _ _ _ _ _ _ _ c.put.ensures.out_after c.put_offsets.ensures c.put_records.ensures c.put-2.ensures.out_after
    (search rules) (search rules) (search rules) (search rules) (search rules)
