-- A sighting: `seen` on views, tests 0, 6, 20, 21, 22.
use Rattle.std.specs.Prelude.{ℕ, cond, ◌&&◌, [], ◌∷◌, ◌++◌, eqb, ltb, length, set}
use Rattle.refusal.specs.Says.{Said, only}
use Rattle.octets.specs.Equal.{same_bytes, holds}
use Rattle.distance.specs.Distance.{log_distance_of}
use Rattle.routing_table.specs.View.{View, entry_ids, replacement_ids, entry_logs, replacement_logs}
use Rattle.routing_table.specs.Places.{first_place, count_of, remove_at}
use Rattle.routing_table.specs.Good.{sized, good}
use Rattle.routing_table.specs.declared.Contact.{Contact}
use Rattle.routing_calls.specs.Change.{entry_of, with_entries, with_replacements}

-- where the node stands now, and the table; or what the refusal says
pub data Seeing : Type 0 where
  refused : Said → Seeing
  entry : View → Seeing
  replacement : View → Seeing

-- the contact becomes the most recent replacement, in place of the one at a place
abbrev pub latest_for : View → ℕ → Contact → Seeing
latest_for v at c = replacement (with_replacements v (remove_at at v.replacements ++ c ∷ []))

-- a newcomer to a log distance d that is full of entries waits; the longest unseen of d makes way where d has four replacements or all
-- places are used
unfoldable pub wait_of : View → Contact → ℕ → Seeing
wait_of v c d =
    cond (ltb (count_of d (replacement_logs v)) 4 && ltb (length v.replacements) 16)
    (replacement (with_replacements v (v.replacements ++ c ∷ [])))
    (cond (holds eqb d (replacement_logs v)) (latest_for v (first_place eqb d (replacement_logs v)) c) (refused (only 22)))

-- a newcomer at log distance d becomes an entry where d has room
unfoldable pub newcomer_of : View → Contact → ℕ → Seeing
newcomer_of v c d =
    cond (ltb (count_of d (entry_logs v)) 16)
    (cond (ltb (length v.entries) 128) (entry (with_entries v (v.entries ++ entry_of c ∷ []))) (refused (only 21)))
    (wait_of v c d)

-- an entry or a replacement with the id gets all fields anew
unfoldable pub meet_of : View → Contact → Seeing
meet_of v c =
    cond (holds same_bytes c.id (entry_ids v))
    (entry (with_entries v (set v.entries (first_place same_bytes c.id (entry_ids v)) (entry_of c))))
    (cond (holds same_bytes c.id (replacement_ids v))
    (latest_for v (first_place same_bytes c.id (replacement_ids v)) c)
    (newcomer_of v c (log_distance_of v.own c.id)))

unfoldable pub seen_of : View → Contact → Seeing
seen_of v c =
    cond (good v)
    (cond (sized c) (cond (same_bytes v.own c.id) (refused (only 20)) (meet_of v c)) (refused (only 6)))
    (refused (only 0))
