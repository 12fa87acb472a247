-- `reply::answered` meets its contract: each kind of message draws its reply (`proofs/Requests.antt`). Assumes nothing.
use mathlib.Core.Path.{◌≡◌, sym, ap, ◌∙◌}
use Rattle.std.specs.Prelude.{Ok}
use lib.ListN.{length}
use Rattle.refusal.specs.declared.Refusal.TheVariants.{MessageType}
use Rattle.message.specs.declared.Reading.TheVariants.{FindNode, FindContent}
use Rattle.message_rules.proofs.Places.{part_between}
use Rattle.routing_table.specs.View.{view}
use Rattle.replies.specs.Nodes.{nodes_reply}
use Rattle.replies.specs.Content.{content_reply}
use Rattle.replies.specs.Reply.{in_room}
use Rattle.reply.specs.Lending.{lending}
use Rattle.reply.specs.Listing.{listing}
use Rattle.reply.proofs.Answers.{replies_as, refused_replies}
use Rattle.reply.proofs.Requests.{answered_as, answered_other, read_key}
use borrow.Author.Rules.{rules}
use Rattle.reply.proofs.answered.Goals as goal

pub slice_bounds-asked-end : goal.slice_bounds-asked-end
slice_bounds-asked-end c =
    let was : c.read.result ≡ Ok (FindNode c.in-FindNode.distances) = search rules in
    c.read.ensures.inside _ was

pub slice_bounds-key-end : goal.slice_bounds-key-end
slice_bounds-key-end c =
    let was : c.read.result ≡ Ok (FindContent c.in-FindContent.key) = search rules in
    c.read.ensures.inside _ was

pub found-requires : goal.found-requires
found-requires c =
    let part = c.in-FindContent.key in
    let was : c.read.result ≡ Ok (FindContent part) = search rules in
    (c.requires, read_key c.args.message.now c.read.result c.read.ensures part was _ (part_between c.args.message.now part.start part.len))

pub returns-in-FindNode : goal.returns-in-FindNode
returns-in-FindNode c =
    let a = c.args in
    let part = c.in-FindNode.distances in
    let was : c.read.result ≡ Ok (FindNode part) = search rules in
    replies_as c.nodes.ensures
    (ap (in_room (length a.out.now))
    (answered_as (listing a.listed.now a.count) (view a.table.now) (lending a.lent) a.message.now c.read.result c.read.ensures (FindNode part) was
    ∙ sym (ap (nodes_reply (view a.table.now) a.lent.own.now) (part_between a.message.now part.start part.len))))

pub returns-in-FindContent : goal.returns-in-FindContent
returns-in-FindContent c =
    let a = c.args in
    let part = c.in-FindContent.key in
    let was : c.read.result ≡ Ok (FindContent part) = search rules in
    replies_as c.found.ensures
    (ap (in_room (length a.out.now))
    (answered_as (listing a.listed.now a.count) (view a.table.now) (lending a.lent) a.message.now c.read.result c.read.ensures (FindContent part) was
    ∙ sym (ap (content_reply (listing a.listed.now a.count) (view a.table.now) a.lent.content.now a.lent.connection) (part_between a.message.now part.start part.len))))

pub returns-in_default : goal.returns-in_default
returns-in_default c =
    let a = c.args in
    refused_replies MessageType a.out.now (search rules)
    (ap (in_room (length a.out.now))
    (answered_other (listing a.listed.now a.count) (view a.table.now) (lending a.lent) a.message.now c.read.result c.read.ensures c.in_ok-distances.field-0 (search rules)
    c.in_default.not-FindNode c.in_default.not-FindContent))
