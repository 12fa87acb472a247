-- What the story of the calls tells of the replacements: their fields, and their order. Assumes nothing.
use native.Mathlib.Omega.{arith}
use mathlib.Core.Path.{◌≡◌, ◌∙◌}
use mathlib.Core.Bool.{true}
use mathlib.Core.List.{List, [], ◌∷◌, ◌++◌}
use mathlib.Core.Option.{some}
use Rattle.nearest.proofs.Lists.{middle_among}
use Rattle.routing_table.specs.Rules.{◌among◌}
use Rattle.routing_table.specs.declared.Contact.{Contact}
use Rattle.routing_runs.specs.Step.{seen, Answer}
use Rattle.routing_runs.specs.Story.{Told, accepted, last_sighting}
use Rattle.routing_runs.proofs.Around.{each_last}
use Rattle.routing_runs.proofs.Recall.{told, Unseen, sighting_still, unseen_longer, quiet_seen, sighting_now, unseen_now}
use Rattle.routing_runs.proofs.Ordered.{Later, Ordered, ordered_without, ordered_last, ordered_still}

-- the fields are those of the last accepted sightings, and the order is theirs
pub record Waits (s : List Told) (l : List Contact) : Type 0 where
  pub fields : (c : Contact) → c among l → last_sighting c.id s ≡ some c
  pub ordered : Ordered s l

-- so after a call that is no sighting of them,
pub waits_still : (t : Told) (s : List Told) (l : List Contact) → ((c : Contact) → c among l → Unseen c.id t) → Waits s l → Waits (t ∷ s) l
waits_still t s l unseen w = record {
  fields = λ c m. sighting_still c.id t s (unseen c m) ∙ w.fields c m;
  ordered = ordered_still s t l unseen w.ordered;
}

-- where one leaves,
pub waits_without : (s : List Told) (front : List Contact) (x : Contact) (back : List Contact) → Waits s (front ++ x ∷ back)
    → Waits s (front ++ back)
waits_without s front x back w = record {
  fields = λ c m. w.fields c (middle_among front x back m);
  ordered = ordered_without s front x back w.ordered;
}

-- and where another one is seen
pub waits_last : (c : Contact) (a : Answer) (s : List Told) (l : List Contact) → accepted a ≡ true
    → ((d : Contact) → d among l → ¬ (d.id ≡ c.id)) → Waits s l → Waits (told (seen c) a ∷ s) (l ++ c ∷ [])
waits_last c a s l ok others w = record {
  fields = each_last (λ (d : Contact). last_sighting d.id (told (seen c) a ∷ s) ≡ some d) l c (sighting_now c a s ok) still.fields;
  ordered = ordered_last (told (seen c) a ∷ s) l c later still.ordered;
}
  where
    unseen : (d : Contact) → d among l → Unseen d.id (told (seen c) a)
    unseen d m = (quiet_seen a (others d m)).unseen

    still : Waits (told (seen c) a ∷ s) l
    still = waits_still (told (seen c) a) s l unseen w

    later : (d : Contact) → d among l → Later (told (seen c) a ∷ s) d c
    later d m =
        let f = unseen_longer d.id (told (seen c) a) s (unseen d m) in
        let g = unseen_now c a s ok in
        omega arith
