-- What a survey says of an id: whether the table keeps its rules, and how the id stands there. Assumes nothing.
use Prim.Native.Nat.{ℕ, ◌<◌}
use native.Mathlib.Omega.{arith}
use mathlib.Core.Path.{◌≡◌, refl, sym, ap, ◌∙◌}
use mathlib.Core.Bool.{Bool, true, false, cond}
use mathlib.Core.List.{List}
use lib.ListN.{length, get_or, length-map}
use Rattle.std.specs.Prelude.{Option, Some, None}
use Rattle.refusal.specs.Says.{only}
use Rattle.octets.specs.Equal.{same_bytes, holds}
use Rattle.distance.specs.Distance.{log_distance_of}
use Rattle.routing_table.specs.View.{View, no_entry, no_contact, entry_id, contact_id, entry_ids, replacement_ids}
use Rattle.routing_table.specs.Places.{first_place, last_place, first_of, last_of}
use Rattle.routing_table.specs.Good.{good}
use Rattle.routing_table.specs.Survey.{survey_of, facts_of}
use Rattle.routing_table.specs.Find.{refused, entry, replacement, absent, find_of}
use Rattle.routing_table.specs.declared.Facts.{Facts}
use Rattle.routing_table.proofs.Placed.{first_below}

module _ (v : View) (id : List ℕ) (s : Option Facts) (is : s ≡ survey_of v id) where
  by_test : (s ≡ None → good v ≡ false) × ((f : Facts) → s ≡ Some f → (good v ≡ true) × (f ≡ facts_of v id (log_distance_of v.own id)))
  unfolding survey_of
  by_test = go (good v) is
    where
      go : (t : Bool) → s ≡ cond t (Some (facts_of v id (log_distance_of v.own id))) None
          → (s ≡ None → t ≡ false) × ((f : Facts) → s ≡ Some f → (t ≡ true) × (f ≡ facts_of v id (log_distance_of v.own id)))
      go true e = (λ n. cc, λ f q. (refl, cc))
      go false e = (λ n. refl, λ f q. cc)

  -- a survey that tells nothing is one of a table that breaks its rules,
  pub survey_none : s ≡ None → good v ≡ false
  survey_none = by_test.0

  -- and one that tells something is one of a table that keeps them, and tells the facts
  pub survey_good : {f : Facts} → s ≡ Some f → good v ≡ true
  survey_good e = (by_test.1 _ e).0

  pub survey_facts : {f : Facts} → s ≡ Some f → f ≡ facts_of v id (log_distance_of v.own id)
  survey_facts e = (by_test.1 _ e).1

-- a place that was found, and one that was not
module _ {A : Type 0} (same : A → A → Bool) (a : A) (l : List A) (r : Option ℕ) where
  pub first_some : r ≡ first_of same a l → {at : ℕ} → r ≡ Some at → (holds same a l ≡ true) × (at ≡ first_place same a l)
  first_some is {at} e = go (holds same a l) (sym e ∙ is)
    where
      go : (t : Bool) → Some at ≡ cond t (Some (first_place same a l)) None → (t ≡ true) × (at ≡ first_place same a l)
      go true q = (refl, cc)
      go false q = cc

  pub first_none : r ≡ first_of same a l → r ≡ None → holds same a l ≡ false
  first_none is e = go (holds same a l) (sym e ∙ is)
    where
      go : (t : Bool) → None ≡ cond t (Some (first_place same a l)) None → t ≡ false
      go true q = cc
      go false q = refl

  pub last_some : r ≡ last_of same a l → {at : ℕ} → r ≡ Some at → (holds same a l ≡ true) × (at ≡ last_place same a l)
  last_some is {at} e = go (holds same a l) (sym e ∙ is)
    where
      go : (t : Bool) → Some at ≡ cond t (Some (last_place same a l)) None → (t ≡ true) × (at ≡ last_place same a l)
      go true q = (refl, cc)
      go false q = cc

  pub last_none : r ≡ last_of same a l → r ≡ None → holds same a l ≡ false
  last_none is e = go (holds same a l) (sym e ∙ is)
    where
      go : (t : Bool) → None ≡ cond t (Some (last_place same a l)) None → t ≡ false
      go true q = cc
      go false q = refl

-- how the id stands in a table that keeps its rules
module _ (v : View) (id : List ℕ) {f : Facts} (g : good v ≡ true) (is : f ≡ facts_of v id (log_distance_of v.own id)) where
  entry_lem : f.entry ≡ first_of same_bytes id (entry_ids v)
  entry_lem = ap (λ (x : Facts). x.entry) is

  replacement_lem : f.replacement ≡ first_of same_bytes id (replacement_ids v)
  replacement_lem = ap (λ (x : Facts). x.replacement) is

  pub look_entry : {at : ℕ} → f.entry ≡ Some at → (at < length v.entries) × (find_of v id ≡ entry (get_or v.entries at no_entry))
  unfolding find_of
  look_entry {at} e =
      let p = first_some same_bytes id (entry_ids v) f.entry entry_lem e in (
        omega (arith, length-map v.entries entry_id, first_below same_bytes id (entry_ids v) p.0),
        rw (g, p.0) (ap (λ (i : ℕ). entry (get_or v.entries i no_entry)) (sym p.1)),
      )

  module _ (none : f.entry ≡ None) where
    pub look_replacement : {at : ℕ} → f.replacement ≡ Some at
        → (at < length v.replacements) × (find_of v id ≡ replacement (get_or v.replacements at no_contact))
    unfolding find_of
    look_replacement {at} e =
        let p = first_some same_bytes id (replacement_ids v) f.replacement replacement_lem e in (
          omega (arith, length-map v.replacements contact_id, first_below same_bytes id (replacement_ids v) p.0),
          rw (g, first_none same_bytes id (entry_ids v) f.entry entry_lem none, p.0) (ap (λ (i : ℕ). replacement (get_or v.replacements i no_contact)) (sym p.1)),
        )

    pub look_absent : f.replacement ≡ None → find_of v id ≡ absent
    unfolding find_of
    look_absent e =
        rw (g, first_none same_bytes id (entry_ids v) f.entry entry_lem none, first_none same_bytes id (replacement_ids v) f.replacement replacement_lem e)

-- a table that breaks its rules
pub look_bad : (v : View) (id : List ℕ) → good v ≡ false → find_of v id ≡ refused (only 0)
unfolding find_of
look_bad v id e = rw e
