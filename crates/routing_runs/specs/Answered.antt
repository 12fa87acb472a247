-- A run of calls of the code from a fresh table, each answered as its contract says and each handed the table that the call before it left.
use Rattle.std.specs.Prelude.{ℕ, ◌≡◌, List, [], ◌∷◌, Result, Ok, Err}
use Rattle.refusal.specs.Says.{says_of}
use Rattle.refusal.specs.declared.Refusal.{Refusal}
use Rattle.routing_table.specs.View.{view, fresh_of}
use Rattle.routing_table.specs.declared.Contact.{Contact}
use Rattle.routing_table.specs.declared.RoutingTable.{RoutingTable}
use Rattle.routing_calls.specs.SeenFor as sees
use Rattle.routing_calls.specs.FailedFor as fails
use Rattle.routing_calls.specs.declared.Standing.{Standing}
use Rattle.routing_calls.specs.declared.Failure.{Failure}
use Rattle.routing_runs.specs.Step.{Call, seen, failed, Answer, refused, entry, replacement, counted, flagged, replaced}
use Rattle.routing_runs.specs.Story.{Told}

-- what an answer of `seen` says, beside the table
abbrev pub seen_says : Result Standing Refusal → Answer
seen_says (Ok Standing.Entry) = entry
seen_says (Ok Standing.Replacement) = replacement
seen_says (Err why) = refused (says_of why)

-- what an answer of `failed` says, beside the table
abbrev pub failed_says : Result Failure Refusal → Answer
failed_says (Ok (Failure.Counted n)) = counted n
failed_says (Ok Failure.Flagged) = flagged
failed_says (Ok (Failure.Replaced by)) = replaced by
failed_says (Err why) = refused (says_of why)

-- table, call, the table after it, what the answer says: the answer meets the contract of the call
pub data Answered (table : RoutingTable) : Call → RoutingTable → Answer → Type 0 where
  seeing : {c : Contact} (last : RoutingTable) (r : Result Standing Refusal) → sees.meaning_of r last ≡ sees.seen_for table c
      → Answered table (seen c) last (seen_says r)
  failing : {id : List ℕ} (last : RoutingTable) (r : Result Failure Refusal) → fails.meaning_of r last ≡ fails.failed_for table id
      → Answered table (failed id) last (failed_says r)

-- own id, calls, the table after them, what they were told, the latest first
pub data Answers (own : List ℕ) : List Call → RoutingTable → List Told → Type 0 where
  none : (table : RoutingTable) → view table ≡ fresh_of own → Answers own [] table []
  next : {table last : RoutingTable} {c : Call} {cs : List Call} {a : Answer} {told : List Told}
      → Answers own cs table told → Answered table c last a → Answers own (c ∷ cs) last (record { call = c; answer = a } ∷ told)
