-- `content::found` meets its contract: whether the key is found among those of the index decides. Assumes nothing.
use mathlib.Core.Path.{◌≡◌, sym, ap, ◌∙◌}
use mathlib.Core.List.{List, [], ◌∷◌}
use Prim.Native.Nat.{ℕ}
use borrow.Author.Rules.{rules}
use Rattle.refusal.specs.Outcome.{given}
use Rattle.content_key.specs.Key.{key_id}
use Rattle.key_index.specs.Search.{place_of}
use Rattle.routing_table.specs.View.{view}
use Rattle.replies.specs.Content.{nearer_reply}
use Rattle.replies.specs.Reply.{in_room}
use Rattle.replies.proofs.Content.{held_so, unheld_so}
use Rattle.reply.specs.Listing.{listing}
use Rattle.reply.proofs.Answers.{replies_as}
use Rattle.reply.proofs.Contents.{nine_is, is_held_lem, not_held}
use Rattle.reply.proofs.content.found.Goals as goal
use Rattle.reply.proofs.content.found.Goals.{After-part-nine}

same : (c : After-part-nine) → c.part-nine.result ≡ c.args.key.now
same c = nine_is _ _ c.requires.1 c.part-nine.ensures

pub returns-in-Some : goal.returns-in-Some
returns-in-Some c =
    let held = listing c.args.listed.now c.args.count in
    let place : c.find.result ≡ place_of c.part-nine.result held.keys = search rules in
    replies_as c.held.ensures
    (ap (in_room _) (held_so _ _ _ _ _ (is_held_lem held _ _ (same (goal.at.returns-in-Some c).After-part-nine) _ place c.in-Some.is)))

pub returns-in-None : goal.returns-in-None
returns-in-None c =
    let held = listing c.args.listed.now c.args.count in
    let place : c.find.result ≡ place_of c.part-nine.result held.keys = search rules in
    replies_as c.nearer.ensures
    (ap (in_room _)
    (unheld_so _ _ _ _ _ (not_held held _ _ (same (goal.at.returns-in-None c).After-part-nine) _ place c.in-None.is)
    ∙ ap (λ (id : List ℕ). given (nearer_reply (view c.args.table.now) id ∷ [])) (ap key_id (sym (same (goal.at.returns-in-None c).After-part-nine)) ∙ sym c.id.ensures)))
