-- What the story of the calls tells of the entries: their fields, and their failures. Assumes nothing.
use Prim.Native.Nat.{ℕ, suc, min}
use native.Mathlib.Omega.{arith}
use mathlib.Core.Path.{◌≡◌, refl, sym, ap, ◌∙◌}
use mathlib.Core.Bool.{true, false}
use mathlib.Core.List.{List, ◌∷◌}
use mathlib.Core.Option.{some}
use Rattle.octets.proofs.Equal.{same_refl}
use Rattle.routing_table.specs.Rules.{◌among◌}
use Rattle.routing_table.specs.declared.Contact.{Contact}
use Rattle.routing_table.specs.declared.Entry.{Entry}
use Rattle.routing_calls.specs.Change.{entry_of}
use Rattle.routing_runs.specs.Step.{seen, failed, Answer, replaced}
use Rattle.routing_runs.specs.Story.{Told, accepted, last_sighting, begins_anew, failures_since}
use Rattle.routing_runs.proofs.Done.{failing}
use Rattle.routing_runs.proofs.Recall.{told, Quiet, sighting_still, failures_still, sighting_now, failures_none}

-- an entry's fields are those of the last accepted sighting of its id, its failures those since then or since it became an entry
pub record Known (s : List Told) (e : Entry) : Type 0 where
  pub fields : last_sighting e.contact.id s ≡ some e.contact
  pub failures : e.failures ≡ min (failures_since e.contact.id s) 3

-- so after a call about another id
pub known_still : (t : Told) (s : List Told) (e : Entry) → Quiet e.contact.id t → Known s e → Known (t ∷ s) e
known_still t s e q k = record {
  fields = sighting_still e.contact.id t s q.unseen ∙ k.fields;
  failures = k.failures ∙ ap (λ (n : ℕ). min n 3) (sym (failures_still e.contact.id t s q));
}

-- an accepted sighting
pub known_seen : (c : Contact) (a : Answer) (s : List Told) → accepted a ≡ true → Known (told (seen c) a ∷ s) (entry_of c)
known_seen c a s ok = record {
  fields = sighting_now c a s ok;
  failures = let e = failures_none c a s ok in omega arith;
}

-- a failure call that leaves the entry its place
failures_more : (id : List ℕ) (a : Answer) (s : List Told) → begins_anew id (failed id) a ≡ false
    → failures_since id (told (failed id) a ∷ s) ≡ suc (failures_since id s)
unfolding failures_since
failures_more id a s g = rw (g, same_refl id)

pub known_failed : (id : List ℕ) (a : Answer) (s : List Told) (e : Entry) (n : ℕ) → e.contact.id ≡ id → begins_anew id (failed id) a ≡ false
    → n ≡ min (suc e.failures) 3 → Known s e → Known (told (failed id) a ∷ s) (failing e n)
known_failed id a s e n same g more k = record {
  fields = sighting_still e.contact.id (told (failed id) a) s refl ∙ k.fields;
  failures =
      let f = failures_more id a s g in
      let h : e.failures ≡ min (failures_since id s) 3 = rw same at k.failures in
      rw same (omega arith);
}

-- a failure call that makes a replacement an entry
failures_begun : (id by : List ℕ) (s : List Told) → failures_since by (told (failed id) (replaced by) ∷ s) ≡ 0
unfolding failures_since
failures_begun id by s = rw (same_refl by)

pub known_promoted : (id : List ℕ) (c : Contact) (s : List Told) → last_sighting c.id s ≡ some c
    → Known (told (failed id) (replaced c.id) ∷ s) (entry_of c)
known_promoted id c s fields = record {
  fields = sighting_still c.id (told (failed id) (replaced c.id)) s refl ∙ fields;
  failures = let f = failures_begun id c.id s in omega arith;
}

-- all entries of a list
abbrev pub AllKnown : List Told → List Entry → Type 0
AllKnown s es = (e : Entry) → e among es → Known s e

pub all_still : (t : Told) (s : List Told) (es : List Entry) → ((e : Entry) → e among es → Quiet e.contact.id t) → AllKnown s es
    → AllKnown (t ∷ s) es
all_still t s es quiet k e m = known_still t s e (quiet e m) (k e m)
