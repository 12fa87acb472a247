-- What a table that keeps its rules gives, and what its survey tells of an id: each field of it. Assumes nothing.
use Prim.Native.Nat.{ℕ, zero, suc, ◌<◌, ◌≤◌}
use native.Mathlib.Omega.{arith}
use mathlib.Core.Path.{◌≡◌, refl, ap, subst, ◌∙◌}
use mathlib.Core.Bool.{true}
use mathlib.Core.List.Memᴰ
use mathlib.Core.List.{List, [], ◌∷◌}
use lib.Dec.{eqb}
use lib.ListN.{length, get_or, length-map}
use Rattle.octets.specs.Equal.{same_bytes}
use Rattle.distance.specs.Distance.{log_distance_of}
use Rattle.routing_table.specs.View.{view, no_contact, no_entry, entry_id, contact_id, entry_ids, replacement_ids, replacement_logs}
use Rattle.routing_table.specs.Places.{first_of, last_of}
use Rattle.routing_table.specs.Good.{good}
use Rattle.routing_table.specs.Rules.{◌among◌}
use Rattle.routing_table.specs.Survey.{Sized, survey_of}
use Rattle.routing_table.specs.declared.Entry.{Entry}
use Rattle.routing_table.specs.declared.Facts.{Facts}
use Rattle.routing_table.specs.declared.RoutingTable.{RoutingTable}
use Rattle.std.specs.Prelude.{Option, Some}
use Rattle.routing_calls.specs.Helpers.{Told}
use Rattle.routing_table.proofs.Placed.{first_below, last_below}
use Rattle.routing_table.proofs.Firsts.{length_firsts, get_firsts, length_of_firsts}
use Rattle.routing_table.proofs.Keeps.{good_keeps}
use Rattle.routing_table.proofs.Looked.{survey_good, survey_facts, first_some, last_some}

-- an element that is there is among them
get_among : {A : Type 0} (l : List A) (i : ℕ) (z : A) → i < length l → get_or l i z among l
get_among [] i z h = absurd (omega arith)
get_among (a ∷ l) zero z h = Memᴰ.head refl
get_among (a ∷ l) (suc i) z h = Memᴰ.tail (get_among l i z (omega arith))

module _ (t : RoutingTable) where
  -- so many entries, and so many replacements
  pub entry_count : length (view t).entries ≡ t.count
  entry_count = length_firsts no_entry t.count t.entries

  pub replacement_count : length (view t).replacements ≡ t.waiting
  replacement_count = length_firsts no_contact t.waiting t.replacements

  module _ (g : good (view t) ≡ true) where
    -- the counts fit the arrays
    pub good_count : t.count ≤ 128
    good_count = omega (arith, (good_keeps (view t) g).entries_most, entry_count)

    pub good_waiting : t.waiting ≤ 16
    good_waiting = omega (arith, (good_keeps (view t) g).replacements_most, replacement_count)

    -- no entry has more than three failures
    pub good_failures : (at : ℕ) → at < t.count → (get_or t.entries at no_entry).failures ≤ 3
    good_failures at h =
        subst (λ (e : Entry). e.failures ≤ 3) (get_firsts no_entry t.count t.entries at h)
        ((good_keeps (view t) g).failures _ (get_among (view t).entries at no_entry (omega (arith, entry_count))))

-- what a survey tells where it tells something
pub told_facts : (t : RoutingTable) (id : List ℕ) (r : Option Facts) {s : Facts} → Sized t → r ≡ survey_of (view t) id → r ≡ Some s → Told t id s
told_facts t id r z e i =
    let f = survey_facts (view t) id r e i in
    record {
      sized = z;
      kept = survey_good (view t) id r e i;
      own = ap (λ (x : Facts). x.own) f;
      entry = ap (λ (x : Facts). x.entry) f;
      replacement = ap (λ (x : Facts). x.replacement) f;
      entries = ap (λ (x : Facts). x.entries) f;
      replacements = ap (λ (x : Facts). x.replacements) f;
      oldest = ap (λ (x : Facts). x.oldest) f;
      newest = ap (λ (x : Facts). x.newest) f;
    }

module _ (t : RoutingTable) where
  pub entry_ids_lem : length (entry_ids (view t)) ≡ t.count
  entry_ids_lem = length_of_firsts no_entry entry_id t.count t.entries

  pub replacement_ids_lem : length (replacement_ids (view t)) ≡ t.waiting
  replacement_ids_lem = length_of_firsts no_contact contact_id t.waiting t.replacements

  pub replacement_logs_lem : length (replacement_logs (view t)) ≡ t.waiting
  replacement_logs_lem = length-map (replacement_ids (view t)) (log_distance_of t.own) ∙ replacement_ids_lem

  -- a place that was found among them is in use
  pub entry_used : (id : List ℕ) (r : Option ℕ) {at : ℕ} → r ≡ first_of same_bytes id (entry_ids (view t)) → r ≡ Some at → at < t.count
  entry_used id r e i =
      let p = first_some same_bytes id (entry_ids (view t)) r e i in
      omega (arith, entry_ids_lem, first_below same_bytes id (entry_ids (view t)) p.0)

  pub replacement_used : (id : List ℕ) (r : Option ℕ) {at : ℕ} → r ≡ first_of same_bytes id (replacement_ids (view t)) → r ≡ Some at → at < t.waiting
  replacement_used id r e i =
      let p = first_some same_bytes id (replacement_ids (view t)) r e i in
      omega (arith, replacement_ids_lem, first_below same_bytes id (replacement_ids (view t)) p.0)

  pub oldest_used : (d : ℕ) (r : Option ℕ) {at : ℕ} → r ≡ first_of eqb d (replacement_logs (view t)) → r ≡ Some at → at < t.waiting
  oldest_used d r e i =
      let p = first_some eqb d (replacement_logs (view t)) r e i in
      omega (arith, replacement_logs_lem, first_below eqb d (replacement_logs (view t)) p.0)

  pub newest_used : (d : ℕ) (r : Option ℕ) {at : ℕ} → r ≡ last_of eqb d (replacement_logs (view t)) → r ≡ Some at → at < t.waiting
  newest_used d r e i =
      let p = last_some eqb d (replacement_logs (view t)) r e i in
      omega (arith, replacement_logs_lem, last_below eqb d (replacement_logs (view t)) p.0)
