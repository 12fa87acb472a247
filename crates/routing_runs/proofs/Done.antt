-- What a call does to a view that keeps its rules: each outcome is one case, with its reason. Assumes nothing.
use Prim.Native.Nat.{ℕ, suc, ◌≤◌, ◌<◌}
use mathlib.Core.Path.{◌≡◌}
use mathlib.Core.List.{List, [], ◌∷◌, ◌++◌}
use lib.ListN.{length}
use Rattle.refusal.specs.Says.{Said}
use Rattle.routing_table.specs.View.{View, entry_logs, replacement_logs}
use Rattle.routing_table.specs.Places.{count_of}
use Rattle.routing_table.specs.Rules.{log_of, HasRecord}
use Rattle.routing_table.specs.declared.Contact.{Contact}
use Rattle.routing_table.specs.declared.Entry.{Entry}
use Rattle.routing_calls.specs.Change.{entry_of, with_entries, with_replacements}
use Rattle.routing_runs.specs.Step.{Call, seen, failed, Answer, refused, entry, replacement, counted, flagged, replaced}
use Rattle.routing_runs.specs.Leaving.{NoneAt, MostRecent, LongestUnseen}
use Rattle.routing_runs.specs.Refusing.{New, Refusing}

-- the entry e stands between front and back, and has this id
pub record EntryAt (v : View) (id : List ℕ) (front : List Entry) (e : Entry) (back : List Entry) : Type 0 where
  pub stands : v.entries ≡ front ++ e ∷ back
  pub named : e.contact.id ≡ id

-- the replacement c stands between front and back, and has this id
pub record ReplacementAt (v : View) (id : List ℕ) (front : List Contact) (c : Contact) (back : List Contact) : Type 0 where
  pub stands : v.replacements ≡ front ++ c ∷ back
  pub named : c.id ≡ id

-- the entry with other failures
abbrev pub failing : Entry → ℕ → Entry
failing e n = record { contact = e.contact; failures = n }

-- an entry and a replacement exchanged
abbrev pub exchanged : View → List Entry → List Contact → View
exchanged v es cs = record { own = v.own; entries = es; replacements = cs }

-- view, call, next view, answer
pub data Done (v : View) : Call → View → Answer → Type 0 where
  -- 6, 20, 21, 22, 29
  refusing : {call : Call} {r : Said} → Refusing v call r → Done v call v (refused r)
  -- an entry is seen
  renewed : {c : Contact} → HasRecord c → (front : List Entry) (e : Entry) (back : List Entry) → EntryAt v c.id front e back
      → Done v (seen c) (with_entries v (front ++ entry_of c ∷ back)) entry
  -- a replacement is seen
  moved : {c : Contact} → HasRecord c → (front : List Contact) (old : Contact) (back : List Contact) → ReplacementAt v c.id front old back
      → Done v (seen c) (with_replacements v (front ++ back ++ c ∷ [])) replacement
  -- a newcomer becomes an entry
  added : {c : Contact} → HasRecord c → New v c → count_of (log_of v c) (entry_logs v) < 16 → length v.entries < 128
      → Done v (seen c) (with_entries v (v.entries ++ entry_of c ∷ [])) entry
  -- a newcomer waits
  waiting : {c : Contact} → HasRecord c → New v c → 16 ≤ count_of (log_of v c) (entry_logs v) → count_of (log_of v c) (replacement_logs v) < 4
      → length v.replacements < 16 → Done v (seen c) (with_replacements v (v.replacements ++ c ∷ [])) replacement
  -- a newcomer waits in place of the longest unseen of its log distance
  making_way : {c : Contact} → HasRecord c → (front : List Contact) (out : Contact) (back : List Contact) → New v c → 16 ≤ count_of (log_of v c) (entry_logs v)
      → LongestUnseen v (log_of v c) out front back
      → Done v (seen c) (with_replacements v (front ++ back ++ c ∷ [])) replacement
  -- the first and the second failure of an entry in a row
  counting : {id : List ℕ} (front : List Entry) (e : Entry) (back : List Entry) → EntryAt v id front e back → e.failures < 2
      → Done v (failed id) (with_entries v (front ++ failing e (suc e.failures) ∷ back)) (counted (suc e.failures))
  -- the third, and each one after it, with no replacement of its log distance
  flagging : {id : List ℕ} (front : List Entry) (e : Entry) (back : List Entry) → EntryAt v id front e back → 2 ≤ e.failures
      → NoneAt v (log_of v e.contact) v.replacements
      → Done v (failed id) (with_entries v (front ++ failing e 3 ∷ back)) flagged
  -- the same, with one
  exchanging : {id : List ℕ} (front : List Entry) (e : Entry) (back : List Entry) → EntryAt v id front e back → 2 ≤ e.failures
      → {by : Contact} (ahead behind : List Contact) → MostRecent v (log_of v e.contact) by ahead behind
      → Done v (failed id) (exchanged v (front ++ entry_of by ∷ back) (ahead ++ behind)) (replaced by.id)
