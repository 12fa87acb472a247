-- One call on a routing table: a sighting with any contact, or a failure with any id. A refused call leaves the view as it was.
use Rattle.std.specs.Prelude.{ℕ, List}
use Rattle.refusal.specs.Says.{Said}
use Rattle.routing_table.specs.View.{View}
use Rattle.routing_table.specs.declared.Contact.{Contact}
use Rattle.routing_calls.specs.Seen as seeing
use Rattle.routing_calls.specs.Failed as failing

pub data Call : Type 0 where
  seen : Contact → Call
  failed : (id : List ℕ) → Call

-- what a refusal says, or what an accepted call says: the node stands as an entry, or as a replacement; its failures are counted, it is
-- flagged, or it gave way to a replacement with this id
pub data Answer : Type 0 where
  refused : Said → Answer
  entry : Answer
  replacement : Answer
  counted : ℕ → Answer
  flagged : Answer
  replaced : (by : List ℕ) → Answer

abbrev pub after_seen : View → seeing.Seeing → View × Answer
after_seen v (seeing.refused says) = (v, refused says)
after_seen v (seeing.entry w) = (w, entry)
after_seen v (seeing.replacement w) = (w, replacement)

abbrev pub after_failed : View → failing.Failing → View × Answer
after_failed v (failing.refused says) = (v, refused says)
after_failed v (failing.counted n w) = (w, counted n)
after_failed v (failing.flagged w) = (w, flagged)
after_failed v (failing.replaced by w) = (w, replaced by)

-- the next view, and the answer
abbrev pub step : View → Call → View × Answer
step v (seen c) = after_seen v (seeing.seen_of v c)
step v (failed id) = after_failed v (failing.failed_of v id)
