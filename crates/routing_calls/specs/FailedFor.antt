-- What an answer of `failed` stands for: a refused call leaves the very table, equal in every byte; an accepted one a table with the view
-- that the definition gives.
use Rattle.std.specs.Prelude.{ℕ, List, Result, Ok, Err}
use Rattle.refusal.specs.Says.{Said, says_of}
use Rattle.refusal.specs.declared.Refusal.{Refusal}
use Rattle.routing_table.specs.View.{View, view}
use Rattle.routing_table.specs.declared.RoutingTable.{RoutingTable}
use Rattle.routing_calls.specs.Failed.{Failing, refused, counted, flagged, replaced, failed_of}
use Rattle.routing_calls.specs.declared.Failure.{Failure}
use Rattle.routing_calls.specs.declared.Failure.TheVariants.{Counted, Flagged, Replaced}

-- an outcome, with the table that a refused call leaves
pub data Given : Type 0 where
  back : Said → RoutingTable → Given
  after_count : ℕ → View → Given
  after_flag : View → Given
  after_exchange : (by : List ℕ) → View → Given

abbrev pub given_by : RoutingTable → Failing → Given
given_by t (refused says) = back says t
given_by t (counted n v) = after_count n v
given_by t (flagged v) = after_flag v
given_by t (replaced by v) = after_exchange by v

-- what a call must come to
abbrev pub failed_for : RoutingTable → List ℕ → Given
failed_for t id = given_by t (failed_of (view t) id)

-- what an answer stands for, with the table after the call
abbrev pub meaning_of : Result Failure Refusal → RoutingTable → Given
meaning_of (Ok (Counted n)) t = after_count n (view t)
meaning_of (Ok Flagged) t = after_flag (view t)
meaning_of (Ok (Replaced by)) t = after_exchange by (view t)
meaning_of (Err why) t = back (says_of why) t
