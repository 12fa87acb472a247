-- What the private helpers of `seen` and `failed` ask and promise; no public contract uses it.
use Rattle.std.specs.Prelude.{ℕ, ◌<◌, ◌≡◌, true, false, List, eqb, get_or, Option, Some, Result, Ok, Err}
use Rattle.refusal.specs.declared.Refusal.{Refusal}
use Rattle.refusal.specs.declared.Refusal.TheVariants.{BadState}
use Rattle.octets.specs.Equal.{same_bytes}
use Rattle.distance.specs.Distance.{log_distance_of}
use Rattle.routing_table.specs.View.{view, no_entry, entry_ids, replacement_ids, entry_logs, replacement_logs}
use Rattle.routing_table.specs.Places.{first_of, last_of, count_of}
use Rattle.routing_table.specs.Good.{good}
use Rattle.routing_table.specs.Survey.{Sized}
use Rattle.routing_table.specs.declared.Facts.{Facts}
use Rattle.routing_table.specs.declared.RoutingTable.{RoutingTable}
use Rattle.routing_calls.specs.Failed.{fail_at_of}
use Rattle.routing_calls.specs.FailedFor.{given_by, meaning_of}
use Rattle.routing_calls.specs.declared.Failure.{Failure}

-- what a survey of a good table tells
pub record Told (t : RoutingTable) (id : List ℕ) (s : Facts) : Type 0 where
  pub sized : Sized t
  pub kept : good (view t) ≡ true
  pub own : s.own ≡ same_bytes t.own id
  pub entry : s.entry ≡ first_of same_bytes id (entry_ids (view t))
  pub replacement : s.replacement ≡ first_of same_bytes id (replacement_ids (view t))
  pub entries : s.entries ≡ count_of (log_distance_of t.own id) (entry_logs (view t))
  pub replacements : s.replacements ≡ count_of (log_distance_of t.own id) (replacement_logs (view t))
  pub oldest : s.oldest ≡ first_of eqb (log_distance_of t.own id) (replacement_logs (view t))
  pub newest : s.newest ≡ last_of eqb (log_distance_of t.own id) (replacement_logs (view t))

-- what a survey comes to
abbrev pub Surveyed : RoutingTable → List ℕ → Result Facts Refusal → Type 0
Surveyed t id (Ok s) = Told t id s
Surveyed t id (Err why) = (why ≡ BadState) × (good (view t) ≡ false)

-- an entry at a place of a good table, and the place of one of its replacements, if any
pub record FailsAt (t : RoutingTable) (at : ℕ) (newest : Option ℕ) : Type 0 where
  pub kept : good (view t) ≡ true
  pub sized : Sized t
  pub used : at < t.count
  pub recent : (from : ℕ) → newest ≡ Some from → from < t.waiting

-- what a failure of it comes to, for every log distance whose most recently seen replacement stands at `newest`
abbrev pub FailedAt : RoutingTable → ℕ → Option ℕ → Failure → RoutingTable → Type 0
FailedAt t at newest r u =
    (d : ℕ) → newest ≡ last_of eqb d (replacement_logs (view t))
    → meaning_of (Ok r) u ≡ given_by t (fail_at_of (view t) at d (get_or t.entries at no_entry).failures)
