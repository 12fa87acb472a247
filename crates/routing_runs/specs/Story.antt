-- A list of calls from a fresh table, the latest first: what stands behind a call came before it. Every point of a run is such a list, so
-- what is said of every list is said of every point.
use Rattle.std.specs.Prelude.{ℕ, suc, Bool, true, false, cond, ◌&&◌, List, [], ◌∷◌}
use Rattle.std.proofs.Math.Option.{Option, none, some}
use Rattle.octets.specs.Equal.{same_bytes}
use Rattle.routing_table.specs.View.{View, fresh_of}
use Rattle.routing_table.specs.declared.Contact.{Contact}
use Rattle.routing_runs.specs.Step.{Call, seen, failed, Answer, refused, entry, replacement, counted, flagged, replaced, step}

-- the view after the calls
unfoldable pub after : List ℕ → List Call → View
after own [] = fresh_of own
after own (c ∷ earlier) = (step (after own earlier) c).0

-- a call with its answer
pub record Told : Type 0 where
  pub call : Call
  pub answer : Answer

-- the calls with their answers
unfoldable pub story : List ℕ → List Call → List Told
story own [] = []
story own (c ∷ earlier) = record { call = c; answer = (step (after own earlier) c).1 } ∷ story own earlier

-- the call was not refused
abbrev pub accepted : Answer → Bool
accepted (refused says) = false
accepted entry = true
accepted replacement = true
accepted (counted n) = true
accepted flagged = true
accepted (replaced by) = true

-- the contact that an accepted sighting of an id brought
abbrev pub sighting_of : List ℕ → Call → Answer → Option Contact
sighting_of id (seen c) answer = cond (same_bytes id c.id && accepted answer) (some c) none
sighting_of id (failed j) answer = none

-- the contact that the last accepted sighting of an id brought, and how many calls ago that was
abbrev pub or_else : Option Contact → Option Contact → Option Contact
or_else (some c) other = some c
or_else none other = other

abbrev pub zero_or : Option Contact → ℕ → ℕ
zero_or (some c) n = 0
zero_or none n = suc n

unfoldable pub last_sighting : List ℕ → List Told → Option Contact
last_sighting id [] = none
last_sighting id (t ∷ earlier) = or_else (sighting_of id t.call t.answer) (last_sighting id earlier)

unfoldable pub unseen_for : List ℕ → List Told → ℕ
unseen_for id [] = 0
unseen_for id (t ∷ earlier) = zero_or (sighting_of id t.call t.answer) (unseen_for id earlier)

-- the count of an id's failures begins anew: it was seen, or became an entry in the place of one that failed
abbrev pub begins_anew : List ℕ → Call → Answer → Bool
begins_anew id (seen c) answer = same_bytes id c.id && accepted answer
begins_anew id (failed j) (replaced by) = same_bytes id by
begins_anew id (failed j) (refused says) = false
begins_anew id (failed j) entry = false
begins_anew id (failed j) replacement = false
begins_anew id (failed j) (counted n) = false
begins_anew id (failed j) flagged = false

-- the call says that the id failed
abbrev pub fails : List ℕ → Call → Bool
fails id (seen c) = false
fails id (failed j) = same_bytes id j

-- how many calls said so since the id was last seen or became an entry, whichever is later
unfoldable pub failures_since : List ℕ → List Told → ℕ
failures_since id [] = 0
failures_since id (t ∷ earlier) =
    cond (begins_anew id t.call t.answer) 0
    (cond (fails id t.call) (suc (failures_since id earlier)) (failures_since id earlier))
