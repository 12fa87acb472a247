-- What an answer of `seen` stands for: a refused call leaves the very table, equal in every byte; an accepted one a table with the view
-- that the definition gives.
use Rattle.std.specs.Prelude.{Result, Ok, Err}
use Rattle.refusal.specs.Says.{Said, says_of}
use Rattle.refusal.specs.declared.Refusal.{Refusal}
use Rattle.routing_table.specs.View.{View, view}
use Rattle.routing_table.specs.declared.Contact.{Contact}
use Rattle.routing_table.specs.declared.RoutingTable.{RoutingTable}
use Rattle.routing_calls.specs.Seen.{Seeing, refused, entry, replacement, seen_of}
use Rattle.routing_calls.specs.declared.Standing.{Standing}
use Rattle.routing_calls.specs.declared.Standing.TheVariants.{Entry, Replacement}

-- an outcome, with the table that a refused call leaves
pub data Given : Type 0 where
  back : Said → RoutingTable → Given
  as_entry : View → Given
  as_replacement : View → Given

abbrev pub given_by : RoutingTable → Seeing → Given
given_by t (refused says) = back says t
given_by t (entry v) = as_entry v
given_by t (replacement v) = as_replacement v

-- what a call must come to
abbrev pub seen_for : RoutingTable → Contact → Given
seen_for t c = given_by t (seen_of (view t) c)

-- what an answer stands for, with the table after the call
abbrev pub meaning_of : Result Standing Refusal → RoutingTable → Given
meaning_of (Ok Entry) t = as_entry (view t)
meaning_of (Ok Replacement) t = as_replacement (view t)
meaning_of (Err why) t = back (says_of why) t
