-- What one call more changes in what a story tells of an id: where the call is about another one, only that the id is unseen for one call
-- longer. Assumes nothing.
use Prim.Native.Nat.{ℕ, suc}
use mathlib.Core.Path.{◌≡◌, refl, ap, ap₂}
use mathlib.Core.Bool.{Bool, true, false, cond, ◌&&◌, and-false}
use mathlib.Core.List.{List, ◌∷◌}
use mathlib.Core.Option.{Option, none, some}
use Rattle.octets.specs.Equal.{same_bytes}
use Rattle.octets.proofs.Equal.{same_refl, differ_same}
use Rattle.refusal.specs.Says.{Said}
use Rattle.routing_table.specs.declared.Contact.{Contact}
use Rattle.routing_runs.specs.Step.{Call, seen, failed, Answer, refused}
use Rattle.routing_runs.specs.Story.{Told, accepted, sighting_of, or_else, zero_or, last_sighting, unseen_for, begins_anew, fails, failures_since}

abbrev pub told : Call → Answer → Told
told c a = record { call = c; answer = a }

-- the call is no accepted sighting of the id
abbrev pub Unseen : List ℕ → Told → Type 0
Unseen id t = sighting_of id t.call t.answer ≡ none

-- nor does the id's count of failures begin anew or rise
pub record Quiet (id : List ℕ) (t : Told) : Type 0 where
  pub unseen : Unseen id t
  pub going : begins_anew id t.call t.answer ≡ false
  pub spared : fails id t.call ≡ false

module _ (id : List ℕ) (t : Told) (s : List Told) where
  pub sighting_still : Unseen id t → last_sighting id (t ∷ s) ≡ last_sighting id s
  unfolding last_sighting
  sighting_still u = ap (λ (o : Option Contact). or_else o (last_sighting id s)) u

  pub unseen_longer : Unseen id t → unseen_for id (t ∷ s) ≡ suc (unseen_for id s)
  unfolding unseen_for
  unseen_longer u = ap (λ (o : Option Contact). zero_or o (unseen_for id s)) u

  pub failures_still : Quiet id t → failures_since id (t ∷ s) ≡ failures_since id s
  unfolding failures_since
  failures_still q = rw (q.going, q.spared)

-- a call about another id is quiet, and so is a refused sighting
pub quiet_seen : {id : List ℕ} {c : Contact} (a : Answer) → ¬ (id ≡ c.id) → Quiet id (told (seen c) a)
quiet_seen {id} {c} a n =
    let e = differ_same id c.id n in
    record {
      unseen = ap (λ (b : Bool). cond (b && accepted a) (some c) none) e;
      going = ap (λ (b : Bool). b && accepted a) e;
      spared = refl;
    }

pub quiet_refused : (id : List ℕ) (c : Contact) (r : Said) → Quiet id (told (seen c) (refused r))
quiet_refused id c r = record {
  unseen = ap (λ (b : Bool). cond b (some c) none) (and-false (same_bytes id c.id));
  going = and-false (same_bytes id c.id);
  spared = refl;
}

pub quiet_failed : {id j : List ℕ} (a : Answer) → ¬ (id ≡ j) → begins_anew id (failed j) a ≡ false → Quiet id (told (failed j) a)
quiet_failed {id} {j} a n g = record { unseen = refl; going = g; spared = differ_same id j n }

-- an accepted sighting is the last one, and was no call ago; the count begins anew
module _ (c : Contact) (a : Answer) (s : List Told) (ok : accepted a ≡ true) where
  sighted : sighting_of c.id (seen c) a ≡ some c
  sighted = ap₂ (λ (b d : Bool). cond (b && d) (some c) none) (same_refl c.id) ok

  pub sighting_now : last_sighting c.id (told (seen c) a ∷ s) ≡ some c
  unfolding last_sighting
  sighting_now = ap (λ (o : Option Contact). or_else o (last_sighting c.id s)) sighted

  pub unseen_now : unseen_for c.id (told (seen c) a ∷ s) ≡ 0
  unfolding unseen_for
  unseen_now = ap (λ (o : Option Contact). zero_or o (unseen_for c.id s)) sighted

  pub failures_none : failures_since c.id (told (seen c) a ∷ s) ≡ 0
  unfolding failures_since
  failures_none = rw (same_refl c.id, ok)
