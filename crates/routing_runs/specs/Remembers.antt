-- What a routing table remembers: one claim about any list of calls from a fresh table of any own id.
use Rattle.std.specs.Prelude.{ℕ, ◌<◌, min, ◌≡◌, true, ◌⊎◌, List, ◌∷◌, ◌++◌}
use Rattle.std.proofs.Math.Option.{some}
use Rattle.refusal.specs.Says.{Said, number_in}
use Rattle.routing_table.specs.View.{View, entry_ids, replacement_ids}
use Rattle.routing_table.specs.Good.{good}
use Rattle.routing_table.specs.Rules.{◌among◌, Rules}
use Rattle.routing_table.specs.declared.Contact.{Contact}
use Rattle.routing_table.specs.declared.Entry.{Entry}
use Rattle.routing_runs.specs.Step.{Call, Answer, refused, step}
use Rattle.routing_runs.specs.Story.{after, Told, story, last_sighting, unseen_for, failures_since}
use Rattle.routing_runs.specs.Leaving.{GivesWay, BecomesEntry, MakesWay}
use Rattle.routing_runs.specs.Refusing.{Refusing}

module _ (own : List ℕ) (calls : List Call) where
  -- the table after the calls, and what they were told
  abbrev pub table : View
  table = after own calls

  abbrev pub told : List Told
  told = story own calls

  -- what the next call leaves, and what it answers
  abbrev pub next : Call → View
  next c = (step table c).0

  abbrev pub says : Call → Answer
  says c = (step table c).1

  pub record Remembers : Type 0 where
    -- 1. the table keeps its rules: it passes the test behind number 0, so that no call gives 0, the look-up among them,
    pub rules : Rules table
    pub passes : good table ≡ true
    -- nor the next call, whatever it is
    pub no_zero : (c : Call) (r : Said) → says c ≡ refused r → ¬ (number_in r ≡ 0)
    -- 2. our own id stays put
    pub owner : table.own ≡ own
    -- 3. the fields of every entry and replacement, the record among them, are those of the last accepted sighting of its id
    pub entry_fields : (e : Entry) → e among table.entries → last_sighting e.contact.id told ≡ some e.contact
    pub replacement_fields : (c : Contact) → c among table.replacements → last_sighting c.id told ≡ some c
    -- 4. replacements stand in the order of their last sightings, longest unseen first
    pub in_order : (front middle back : List Contact) (a b : Contact) → table.replacements ≡ front ++ a ∷ middle ++ b ∷ back
        → unseen_for b.id told < unseen_for a.id told
    -- 5. an entry's failures are the failure calls for its id since it was last seen or became an entry, whichever is later, up to three
    pub failures : (e : Entry) → e among table.entries → e.failures ≡ min (failures_since e.contact.id told) 3
    -- 6. at the next call, an entry leaves only by its own failure, and in exchange for the most recently seen replacement of its log distance
    pub entry_leaves : (c : Call) (e : Entry) → e among table.entries → ¬ (e.contact.id among entry_ids (next c))
        → GivesWay table c (next c) (says c) e
    -- 7. a replacement leaves only by becoming an entry, or because a newcomer of its log distance came and it was the longest unseen of them
    pub replacement_leaves : (c : Call) (out : Contact) → out among table.replacements → ¬ (out.id among replacement_ids (next c))
        → BecomesEntry table c (next c) (says c) out ⊎ MakesWay table c (next c) (says c) out
    -- 8. a call is refused for its reason only, and a refused call changes nothing
    pub reasons : (c : Call) (r : Said) → says c ≡ refused r → Refusing table c r
    pub refuses : (c : Call) (r : Said) → says c ≡ refused r → next c ≡ table
