-- Why a call on a table that keeps its rules is refused: each number with its reason.
use Rattle.std.specs.Prelude.{ℕ, ◌≤◌, ◌<◌, ◌≡◌, List, length}
use Rattle.refusal.specs.Says.{Said, only}
use Rattle.routing_table.specs.View.{View, ids_of, entry_ids, entry_logs}
use Rattle.routing_table.specs.Places.{count_of}
use Rattle.routing_table.specs.Rules.{◌among◌, log_of, HasRecord}
use Rattle.routing_table.specs.declared.Contact.{Contact}
use Rattle.routing_runs.specs.Step.{Call, seen, failed}
use Rattle.routing_runs.specs.Leaving.{NoneAt}

-- a newcomer: its id is neither ours nor that of an entry or a replacement
abbrev pub New : View → Contact → Type 0
New v c = ¬ (c.id among ids_of v)

pub data Refusing (v : View) : Call → Said → Type 0 where
  -- 6: the record has not 1 to 300 bytes
  bad_record : {c : Contact} → ¬ HasRecord c → Refusing v (seen c) (only 6)
  -- 20: our own id
  ours : {c : Contact} → c.id ≡ v.own → Refusing v (seen c) (only 20)
  ours_failed : {id : List ℕ} → id ≡ v.own → Refusing v (failed id) (only 20)
  -- 21: a newcomer, all entries used though its log distance has room
  entries_used : {c : Contact} → New v c → count_of (log_of v c) (entry_logs v) < 16 → 128 ≤ length v.entries → Refusing v (seen c) (only 21)
  -- 22: a newcomer to a full log distance, all replacements used by other log distances
  replacements_used : {c : Contact} → New v c → 16 ≤ count_of (log_of v c) (entry_logs v) → 16 ≤ length v.replacements
      → NoneAt v (log_of v c) v.replacements → Refusing v (seen c) (only 22)
  -- 29: failure of an id without an entry
  no_entry : {id : List ℕ} → ¬ (id among entry_ids v) → Refusing v (failed id) (only 29)
