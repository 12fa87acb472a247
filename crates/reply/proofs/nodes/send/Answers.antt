-- `nodes::send` meets its contract: the plan counts the messages and their bytes, and where these have room they are written. Assumes nothing.
use native.Mathlib.Omega.{arith}
use Prim.Native.Nat.{◌≤◌, ◌<◌}
use mathlib.Core.Path.{◌≡◌, refl}
use lib.ListN.{length}
use borrow.Author.Rules.{rules}
use Rattle.refusal.specs.declared.Refusal.TheVariants.{ShortBuffer}
use Rattle.replies.specs.Reply.{bytes_of}
use Rattle.reply.specs.Ready.{messages_of, records_in}
use Rattle.reply.proofs.Answers.{refused_replies, room_short, sent_replies}
use Rattle.reply.proofs.Placed.{found_lend, found_of_lem, found_few, found_sent, found_small, plan_count, plan_bytes, numbered_length, lends_ready}
use Rattle.reply.proofs.nodes.send.Goals as goal

pub shared_ref_as_front-starts : goal.shared_ref_as_front-starts
shared_ref_as_front-starts c = c.requires.slots.few

pub shared_ref_as_front-lens : goal.shared_ref_as_front-lens
shared_ref_as_front-lens c = c.requires.slots.few

pub plan-plan-requires : goal.plan-plan-requires
plan-plan-requires c = (found_few _ c.requires, found_small _ c.requires)

pub returns-then-out-plan : goal.returns-then-out-plan
returns-then-out-plan c =
    let ms = messages_of (records_in c.args.found.now) in
    let bytes : c.plan-plan.result.size ≡ length (bytes_of ms) = plan_bytes _ _ c.plan-plan.ensures _ (found_of_lem _ c.requires) in
    let short : length c.args.out.now < c.plan-plan.result.size = search rules in
    refused_replies ShortBuffer c.args.out.now (search rules) (room_short ms _ (omega (arith, bytes, short)))

pub write-lens-requires : goal.write-lens-requires
write-lens-requires c =
    let e = found_of_lem _ c.requires in
    let bytes : c.plan-plan.result.size ≡ length (bytes_of (messages_of (records_in c.args.found.now))) = plan_bytes _ _ c.plan-plan.ensures _ e in
    let room : c.plan-plan.result.size ≤ length c.args.out.now = search rules in
    lends_ready _ _ _ _ _ _ (found_lend _ c.requires) c.requires.fair (plan_count _ _ c.plan-plan.ensures _ e) (omega (arith, bytes, room))

pub returns : goal.returns
returns c =
    let ms = messages_of (records_in c.args.found.now) in
    let e = found_of_lem _ c.requires in
    let bytes : c.plan-plan.result.size ≡ length (bytes_of ms) = plan_bytes _ _ c.plan-plan.ensures _ e in
    let room : c.plan-plan.result.size ≤ length c.args.out.now = search rules in
    sent_replies ms (omega (arith, bytes, room)) _ refl (numbered_length _ _ (plan_count _ _ c.plan-plan.ensures _ e))
    (found_sent _ c.requires c.write-lens.ensures)
