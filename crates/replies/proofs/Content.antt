-- The reply to a FindContent. For a key that is held: the content or the connection id. For one that is not: as many records as fit, of
-- entries that are nearer to its id than we are. Assumes nothing.
use Prim.Native.Nat.{ℕ, ◌<◌}
use mathlib.Core.Path.{◌≡◌, refl, sym, subst, ◌∙◌}
use mathlib.Core.Bool.{Bool, true, false, cond, ◌&&◌}
use mathlib.Core.List.{List, [], ◌∷◌, map}
use lib.Dec.{leb, lit≤}
use lib.ListN.{length, drop}
use borrow.Author.Tests.{leb-true, ltb-true}
use Rattle.octets.proofs.Tests.{both}
use Rattle.refusal.specs.Outcome.{given, refused}
use Rattle.refusal.proofs.Outcomes.{given_not}
use Rattle.distance.specs.Distance.{distance_of}
use Rattle.content_key.specs.Key.{key_id}
use Rattle.message.specs.Values.{Message, Sized, found_content}
use Rattle.message.specs.Rules.{connected}
use Rattle.key_index.specs.View as index
use Rattle.key_index.specs.Calls.{is_held}
use Rattle.routing_table.specs.View.{View}
use Rattle.routing_table.specs.Rules.{◌among◌, Rules}
use Rattle.routing_table.specs.declared.Entry.{Entry}
use Rattle.replies.specs.Groups.{first_group}
use Rattle.replies.specs.Chosen.{away_from, nearest_by, entry_record}
use Rattle.replies.specs.Content.{no_connection, held_reply, is_nearer, content_fit, nearer_records, nearer_reply, content_reply}
use Rattle.replies.specs.Laws.{AsManyAsFit, NearerSent, HeldSent, by_content, by_connection}
use Rattle.replies.proofs.Groups.{taken_by, first_split, first_fits, first_full}
use Rattle.replies.proofs.Once.{once_only}
use Rattle.replies.proofs.Sizes.{content_is, none_fits}
use Rattle.replies.proofs.Chosen.{record_of_lem, nearest_first}

-- the first group is as many as fit
pub as_many_lem : (records : List (List ℕ)) → AsManyAsFit records (first_group content_fit [] records)
as_many_lem records =
    record {
      left = drop (taken_by content_fit [] records) records;
      split = first_split content_fit [] records;
      fit = first_fits content_fit [] records (content_is [] ∙ none_fits 13 (lit≤ tt));
      more = first_full content_fit [] records;
    }

-- the records of the entries that are nearer: of these
pub nearer_of : {r : List ℕ} (v : View) (id : List ℕ) → r among nearer_records v id
    → (e : Entry) × (e among v.entries) × (away_from id e < distance_of id v.own) × (entry_record e ≡ r)
nearer_of v id m =
    let e = record_of_lem v id (is_nearer v id) (once_only (map entry_record (nearest_by id (is_nearer v id) v)) m) in
    (e.0, e.1, ltb-true (away_from id e.0) (distance_of id v.own) e.2, e.3)

-- what is sent for a key that is not held
pub nearer_sent : (v : View) (rules : Rules v) (ids : (e : Entry) → e among v.entries → Sized 32 e.contact.id) (id : List ℕ) → Sized 32 id
    → NearerSent v id (nearer_reply v id)
nearer_sent v rules ids id whole =
    record {
      sent = first_group content_fit [] (nearer_records v id);
      is = refl;
      nearest = nearest_first v rules ids id whole (is_nearer v id);
      as_many = as_many_lem (nearer_records v id);
    }

-- a key that is held is answered by what is lent, one that is not by records
module _ (held : index.View) (v : View) (content connection key : List ℕ) where
  pub held_so : is_held key held ≡ true → content_reply held v content connection key ≡ held_reply content connection
  unfolding content_reply
  held_so e = rw e

  pub unheld_so : is_held key held ≡ false → content_reply held v content connection key ≡ given (nearer_reply v (key_id key) ∷ [])
  unfolding content_reply
  unheld_so e = rw e

-- what a reply for a key that is held says
pub held_sent : (content connection : List ℕ) (ms : List Message) → held_reply content connection ≡ given ms → HeldSent content connection ms
unfolding held_reply
held_sent content connection ms e = go (leb 1 (length content) && leb (length content) 1267) refl (connected connection) refl e
  where
    go : (t : Bool) → (leb 1 (length content) && leb (length content) 1267) ≡ t → (u : Bool) → connected connection ≡ u
        → cond t (given (found_content no_connection [] content ∷ [])) (cond u (given (found_content connection [] [] ∷ [])) (refused 23)) ≡ given ms
        → HeldSent content connection ms
    go true p u q w =
        let b = both (leb 1 (length content)) (leb (length content) 1267) p in
        let same : found_content no_connection [] content ∷ [] ≡ ms = cc in
        subst (HeldSent content connection) same (by_content (leb-true 1 (length content) b.0) (leb-true (length content) 1267 b.1))
    go false p true q w = let same : found_content connection [] [] ∷ [] ≡ ms = cc in subst (HeldSent content connection) same (by_connection p q)
    go false p false q w = given_not (sym w)

-- it is refused with 23 where nothing can be sent
pub held_refused : (content connection : List ℕ) → (leb 1 (length content) && leb (length content) 1267) ≡ false → connected connection ≡ false
    → held_reply content connection ≡ refused 23
unfolding held_reply
held_refused content connection p q = rw (p, q)
