-- A failure: `failed` on views, tests 0, 20, 29.
use Rattle.std.specs.Prelude.{ℕ, suc, cond, List, eqb, ltb, get_or, set}
use Rattle.refusal.specs.Says.{Said, only}
use Rattle.octets.specs.Equal.{same_bytes, holds}
use Rattle.distance.specs.Distance.{log_distance_of}
use Rattle.routing_table.specs.View.{View, no_contact, no_entry, entry_ids, replacement_logs}
use Rattle.routing_table.specs.Places.{first_place, last_place, remove_at}
use Rattle.routing_table.specs.Good.{good}
use Rattle.routing_table.specs.declared.Contact.{Contact}
use Rattle.routing_calls.specs.Change.{entry_of, with_entries}

-- what became of the entry, and the table; or what the refusal says
pub data Failing : Type 0 where
  refused : Said → Failing
  counted : ℕ → View → Failing
  flagged : View → Failing
  replaced : (by : List ℕ) → View → Failing

-- the entry at a place, with so many failures
abbrev pub failures_at : View → ℕ → ℕ → View
failures_at v at n = with_entries v (set v.entries at (record { contact = (get_or v.entries at no_entry).contact; failures = n }))

-- the replacement at a place becomes the entry at another place, with no failures
abbrev pub promoted : View → ℕ → ℕ → Contact → Failing
promoted v at from c = replaced c.id (record { own = v.own; entries = set v.entries at (entry_of c); replacements = remove_at from v.replacements })

-- at the third failure, and each one after it, the entry gives way to the most recently seen replacement of its log distance d, or is flagged
unfoldable pub give_way_of : View → ℕ → ℕ → Failing
give_way_of v at d =
    cond (holds eqb d (replacement_logs v))
    (promoted v at (last_place eqb d (replacement_logs v)) (get_or v.replacements (last_place eqb d (replacement_logs v)) no_contact))
    (flagged (failures_at v at 3))

-- the entry at a place, of log distance d and with n failures so far, fails
unfoldable pub fail_at_of : View → ℕ → ℕ → ℕ → Failing
fail_at_of v at d n = cond (ltb n 2) (counted (suc n) (failures_at v at (suc n))) (give_way_of v at d)

-- an id other than ours
unfoldable pub miss_of : View → List ℕ → ℕ → Failing
miss_of v id at =
    cond (holds same_bytes id (entry_ids v))
    (fail_at_of v at (log_distance_of v.own id) (get_or v.entries at no_entry).failures)
    (refused (only 29))

unfoldable pub failed_of : View → List ℕ → Failing
failed_of v id =
    cond (good v)
    (cond (same_bytes v.own id) (refused (only 20)) (miss_of v id (first_place same_bytes id (entry_ids v))))
    (refused (only 0))
