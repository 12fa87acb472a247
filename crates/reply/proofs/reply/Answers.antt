-- `reply::reply` meets its contract: each test gives its number (`proofs/Requests.antt`), and past them the keys are all of the index
-- that counts (`listing_alone`). Assumes nothing.
use Prim.Native.Nat.{◌≤◌}
use native.Mathlib.Omega.{arith}
use mathlib.Core.Path.{◌≡◌, refl, sym, ap, ◌∙◌}
use mathlib.Core.Bool.{true, false}
use lib.ListN.{length}
use borrow.Author.Tests.{not-true, not-false, eqb-false}
use Rattle.refusal.specs.declared.Refusal.TheVariants.{BadState, EmptyMessage, LongMessage, MessageType}
use Rattle.message.specs.Decode.{decode}
use Rattle.key_index.specs.View as keys
use Rattle.routing_table.specs.View.{view}
use Rattle.replies.specs.Reply.{agree, in_room}
use Rattle.reply.specs.Lending.{lending}
use Rattle.reply.proofs.Answers.{replies_as, refused_replies}
use Rattle.reply.proofs.Requests.{agree_index, agree_known, reply_apart, reply_empty, reply_long, reply_other, reply_asked, table_good, listing_alone}
use borrow.Author.Rules.{rules}
use Rattle.reply.proofs.reply.Goals as goal
use Rattle.reply.proofs.reply.Goals.{Else-not-is_of, Else-is_empty, then-not-is_good-via-then-not-is_good, then-not-is_good-via-else-not-is_good+then-not-is_of}

agreed : (c : Else-not-is_of) → agree keys.key_limit (keys.view c.args.index.now) (view c.args.table.now) ≡ true
agreed c =
    let a = c.args in
    agree_known keys.key_limit (keys.view a.index.now) (view a.table.now) c.is_good.result c.is_good.ensures c.if-not-is_good.false ∙ sym c.is_of.ensures
    ∙ c.if-not-is_of.false

pub returns-then-not-is_good : goal.returns-then-not-is_good
returns-then-not-is_good c =
    let a = c.args in
    let held = keys.view a.index.now in
    let met = view a.table.now in
    let i = c.is_good in
    let g : false ≡ agree keys.key_limit held met = elim c.then-not-is_good.branch [ then-not-is_good-via-then-not-is_good w ↦ agree_index keys.key_limit held met i.result i.ensures w.if-not-is_good.true false refl | then-not-is_good-via-else-not-is_good+then-not-is_of w ↦ sym (agree_known keys.key_limit held met i.result i.ensures w.if-not-is_good.false ∙ sym w.is_of.ensures ∙ w.if-not-is_of.true) ] in
    refused_replies BadState a.out.now (search rules) (ap (in_room (length a.out.now)) (reply_apart keys.key_limit held met (lending a.lent) a.message.now false g refl))

pub returns-then-is_empty : goal.returns-then-is_empty
returns-then-is_empty c =
    let a = c.args in
    let g = agreed (goal.at.returns-then-is_empty c).Else-not-is_of in
    refused_replies EmptyMessage a.out.now (search rules) (ap (in_room (length a.out.now)) (reply_empty keys.key_limit (keys.view a.index.now) (view a.table.now) (lending a.lent) a.message.now true (sym g) refl (search rules)))

pub returns-then-message-gt1280 : goal.returns-then-message-gt1280
returns-then-message-gt1280 c =
    let a = c.args in
    let g = agreed (goal.at.returns-then-message-gt1280 c).Else-not-is_of in
    refused_replies LongMessage a.out.now (search rules) (ap (in_room (length a.out.now)) (reply_long keys.key_limit (keys.view a.index.now) (view a.table.now) (lending a.lent) a.message.now true (sym g) refl (search rules)))

some : (c : Else-is_empty) → 1 ≤ length c.args.message.now
some c = omega (arith, eqb-false (length c.args.message.now) 0 (sym c.is_empty.ensures ∙ c.if-is_empty.false))

pub returns-then-not-is_request : goal.returns-then-not-is_request
returns-then-not-is_request c =
    let a = c.args in
    let g = agreed (goal.at.returns-then-not-is_request c).Else-not-is_of in
    let t = c.is_request in
    refused_replies MessageType a.out.now (search rules) (ap (in_room (length a.out.now)) (reply_other keys.key_limit (keys.view a.index.now) (view a.table.now) (lending a.lent) a.message.now true (sym g) refl (some (goal.at.returns-then-not-is_request c).Else-is_empty) (omega arith) t.result t.ensures (search (rules, not-true))))

pub answered-requires : goal.answered-requires
answered-requires c =
    table_good keys.key_limit (keys.view c.args.index.now) (view c.args.table.now) (agreed (goal.at.answered-requires c).Else-not-is_of)

pub returns : goal.returns
returns c =
    let a = c.args in
    let g = agreed (goal.at.returns c).Else-not-is_of in
    let t = c.is_request in
    let index = a.index.now in
    replies_as c.answered.ensures
    (ap (in_room (length a.out.now))
    (reply_asked keys.key_limit (keys.view index) (view a.table.now) (lending a.lent) a.message.now true (sym g) refl (some (goal.at.returns c).Else-is_empty) (omega arith) t.result t.ensures (search (rules, not-false))
    ∙ listing_alone index.node index.cap index.keys index.count (view a.table.now) (lending a.lent) (decode a.message.now)))
