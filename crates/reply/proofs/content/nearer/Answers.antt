-- `content::nearer` meets its contract: the records copied are those due for the key's id, and the first group of them is sent. Assumes nothing.
use Prim.Native.Nat.{ℕ, ◌≤◌}
use native.Mathlib.Omega.{arith}
use mathlib.Core.Path.{◌≡◌, sym, ap, ◌∙◌}
use mathlib.Core.List.{List, ◌∷◌, []}
use mathlib.Core.Option.{some}
use lib.ListN.{length, take}
use lib.Seq.{length-take-le}
use Rattle.refusal.specs.Outcome.{given}
use Rattle.message.specs.Values.{found_content}
use Rattle.routing_table.specs.View.{View, view}
use Rattle.replies.specs.Groups.{first_group}
use Rattle.replies.specs.Content.{no_connection, is_nearer, content_fit, nearer_records}
use Rattle.replies.specs.Reply.{in_room}
use Rattle.reply_records.specs.Records.{Holds}
use Rattle.reply.specs.Ready.{records_in, Found}
use Rattle.reply.proofs.Answers.{replies_as}
use Rattle.reply.proofs.Placed.{found_starts, found_lens, found_of_lem, found_small, found_part, holds_found}
use Rattle.reply.proofs.Tables.{records_send, copied}
use Rattle.reply.proofs.Contents.{content_replies, group_part, group_rules, group_size}
use Rattle.reply.proofs.content.nearer.Goals as goal
use Rattle.reply.proofs.content.nearer.Goals.{After-first-group, After-nearer-records}

abbrev id : After-nearer-records → List ℕ
id c = c.args.id

abbrev nearby : After-nearer-records → View
nearby c = view c.args.table.now

holds : (c : After-nearer-records) → Holds (nearer_records (nearby c) (id c)) c.nearer-records.result
holds c = copied _ c.requires (id c) (is_nearer (nearby c) (id c)) c.nearer-records.result c.nearer-records.ensures.whole c.nearer-records.ensures.records

found : (c : After-nearer-records) → Found c.nearer-records.result
found c =
    holds_found _ _ (holds c) (records_send _ c.requires (id c) (is_nearer (nearby c) (id c)) c.nearer-records.result c.nearer-records.ensures.whole)

-- as many are taken as there are, at most
taken : (c : After-first-group) → Found c.nearer-records.result → c.first-group.result.taken ≤ c.nearer-records.result.count
taken c found =
    let inside = c.first-group.ensures.inside in
    let f = c.nearer-records.result in
    let whole : length (take f.count f.lens) ≡ f.count = length-take-le _ _ (found_lens f found) in
    omega arith

pub shared_ref_as_front-first : goal.shared_ref_as_front-first
shared_ref_as_front-first c = (found (goal.at.shared_ref_as_front-first c).After-nearer-records).slots.few

pub first-group-requires : goal.first-group-requires
first-group-requires c = (omega arith, found_small _ (found (goal.at.first-group-requires c).After-nearer-records))

pub shared_ref_as_front-write_found_content : goal.shared_ref_as_front-write_found_content
shared_ref_as_front-write_found_content c =
    let f = found (goal.at.shared_ref_as_front-write_found_content c).After-nearer-records in
    omega (arith, found_starts _ f, taken (goal.at.shared_ref_as_front-write_found_content c).After-first-group f)

pub shared_ref_as_front-write_found_content-2 : goal.shared_ref_as_front-write_found_content-2
shared_ref_as_front-write_found_content-2 c =
    let f = found (goal.at.shared_ref_as_front-write_found_content-2 c).After-nearer-records in
    omega (arith, found_lens _ f, taken (goal.at.shared_ref_as_front-write_found_content-2 c).After-first-group f)

pub returns : goal.returns
returns c =
    let f = c.nearer-records.result in
    let n = c.first-group.result.taken in
    let group = group_part _ (records_in f) (found_of_lem f (found (goal.at.returns c).After-nearer-records)) _ (omega arith) _ c.first-group.ensures in
    replies_as
    (content_replies no_connection [] f.bytes (take n f.starts) (take n f.lens) _ (found_part f (found (goal.at.returns c).After-nearer-records) n (taken (goal.at.returns c).After-first-group (found (goal.at.returns c).After-nearer-records)) ∙ ap some group)
    (group_rules (records_in f) (found (goal.at.returns c).After-nearer-records).fair) (group_size (records_in f) (found (goal.at.returns c).After-nearer-records).fair) c.write_found_content.ensures c.one.ensures)
    (ap (in_room _)
    (ap (λ (rs : List (List ℕ)). given (found_content no_connection (first_group content_fit [] rs) [] ∷ [])) (sym (holds (goal.at.returns c).After-nearer-records).are)))
