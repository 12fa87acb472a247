-- `nodes::nodes` meets its contract: whether 0 is asked for decides on our own record; the records copied are those due, and are sent. Assumes nothing.
use mathlib.Core.Path.{◌≡◌, sym, ap, ◌∙◌}
use mathlib.Core.List.{◌∷◌}
use borrow.Author.Rules.{rules}
use Rattle.refusal.specs.declared.Refusal.TheVariants.{Unusable}
use Rattle.routing_table.specs.View.{view}
use Rattle.replies.specs.Chosen.{once}
use Rattle.replies.specs.Nodes.{is_asked, sendable}
use Rattle.replies.specs.Reply.{in_room}
use Rattle.replies.proofs.Once.{Sendable}
use Rattle.reply_records.specs.Records.{Holds}
use Rattle.reply_records.proofs.Slotted.{sendable_is}
use Rattle.reply.proofs.Answers.{replies_as, refused_replies}
use Rattle.reply.proofs.Placed.{holds_found}
use Rattle.reply.proofs.Tables.{records_send, copied, copied_own}
use Rattle.reply.proofs.Asking.{with_own, asked_records, nodes_refused, nodes_own, nodes_others}
use Rattle.reply.proofs.nodes.nodes.Goals as goal
use Rattle.reply.proofs.nodes.nodes.Goals.{After-asked-2, After-asked-then-asked}

own_sends : (c : After-asked-then-asked) → Sendable c.args.own.now
own_sends c =
    let fits = c.record_fits in
    let own = c.args.own.now in
    let tested : fits.result ≡ sendable own = search rules in
    sendable_is own (sym tested ∙ c.if-not-record_fits.false)

own_holds : (c : After-asked-then-asked)
    → Holds (once (c.args.own.now ∷ asked_records (view c.args.table.now) c.args.own.now c.args.distances.now)) c.asked-then-asked.result
own_holds c =
    let v = view c.args.table.now in
    copied_own _ c.requires v.own (is_asked v c.args.distances.now) c.asked-then-asked.result c.asked-then-asked.ensures.whole _ (own_sends c) c.asked-then-asked.ensures.records

holds : (c : After-asked-2)
    → Holds (once (asked_records (view c.args.table.now) c.args.own.now c.args.distances.now)) c.asked-2.result
holds c =
    let v = view c.args.table.now in
    copied _ c.requires v.own (is_asked v c.args.distances.now) c.asked-2.result c.asked-2.ensures.whole c.asked-2.ensures.records

pub returns-then-not-record_fits : goal.returns-then-not-record_fits
returns-then-not-record_fits c =
    let fits = c.record_fits in
    let tested : fits.result ≡ sendable c.args.own.now = search rules in
    refused_replies Unusable c.args.out.now (search rules)
    (ap (in_room _) (nodes_refused _ c.args.own.now _ _ c.asked.ensures c.if-asked.true (sym tested ∙ c.if-not-record_fits.true)))

pub send-requires : goal.send-requires
send-requires c = holds_found _ _ (own_holds (goal.at.send-requires c).After-asked-then-asked) (with_own _ _ (own_sends (goal.at.send-requires c).After-asked-then-asked) (records_send _ c.requires _ _ c.asked-then-asked.result c.asked-then-asked.ensures.whole))

pub returns-then-asked : goal.returns-then-asked
returns-then-asked c =
    replies_as c.send.ensures
    (ap (in_room _) (nodes_own _ c.args.own.now _ _ c.asked.ensures c.if-asked.true (own_sends (goal.at.returns-then-asked c).After-asked-then-asked) _ (own_holds (goal.at.returns-then-asked c).After-asked-then-asked).are))

pub send-requires-2 : goal.send-requires-2
send-requires-2 c = holds_found _ _ (holds (goal.at.send-requires-2 c).After-asked-2) (records_send _ c.requires _ _ c.asked-2.result c.asked-2.ensures.whole)

pub returns : goal.returns
returns c =
    replies_as c.send-2.ensures
    (ap (in_room _) (nodes_others _ c.args.own.now _ _ c.asked.ensures c.if-asked.false _ (holds (goal.at.returns c).After-asked-2).are))
