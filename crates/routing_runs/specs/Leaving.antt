-- Who leaves a table, and why. A call takes the view v to the view w and answers a.
use Rattle.std.specs.Prelude.{ℕ, ◌≤◌, ◌≡◌, List, [], ◌∷◌, ◌++◌}
use Rattle.routing_table.specs.View.{View, ids_of}
use Rattle.routing_table.specs.Rules.{◌among◌, log_of}
use Rattle.routing_table.specs.declared.Contact.{Contact}
use Rattle.routing_table.specs.declared.Entry.{Entry}
use Rattle.routing_calls.specs.Change.{entry_of}
use Rattle.routing_runs.specs.Step.{Call, seen, failed, Answer, replacement, replaced}

-- none of the contacts is of log distance d
abbrev pub NoneAt : View → ℕ → List Contact → Type 0
NoneAt v d cs = (c : Contact) → c among cs → ¬ (log_of v c ≡ d)

-- by is the most recently seen replacement of log distance d, as it stands last among them: before it stand front, behind it back
pub record MostRecent (v : View) (d : ℕ) (by : Contact) (front back : List Contact) : Type 0 where
  pub stands : v.replacements ≡ front ++ by ∷ back
  pub alike : log_of v by ≡ d
  pub others : NoneAt v d back

-- out is the longest unseen replacement of log distance d, as it stands first among them
pub record LongestUnseen (v : View) (d : ℕ) (out : Contact) (front back : List Contact) : Type 0 where
  pub stands : v.replacements ≡ front ++ out ∷ back
  pub alike : log_of v out ≡ d
  pub others : NoneAt v d front

-- the entry e gives way: the call is its own failure, at least its third in a row, and the most recently seen replacement of its log
-- distance becomes an entry instead, with no failures
pub record GivesWay (v : View) (call : Call) (w : View) (a : Answer) (e : Entry) : Type 0 where
  pub its_failure : call ≡ failed e.contact.id
  pub third : 2 ≤ e.failures
  pub by : Contact
  pub front : List Contact
  pub back : List Contact
  pub recent : MostRecent v (log_of v e.contact) by front back
  pub named : a ≡ replaced by.id
  pub instead : entry_of by among w.entries
  pub left : w.replacements ≡ front ++ back

-- the replacement becomes an entry, in exchange for one of its log distance that fails
pub record BecomesEntry (v : View) (call : Call) (w : View) (a : Answer) (out : Contact) : Type 0 where
  pub failing : Entry
  pub was : failing among v.entries
  pub way : GivesWay v call w a failing
  pub itself : way.by ≡ out

-- the replacement makes way for a newcomer of its log distance, as the longest unseen of them
pub record MakesWay (v : View) (call : Call) (w : View) (a : Answer) (out : Contact) : Type 0 where
  pub newcomer : Contact
  pub sighting : call ≡ seen newcomer
  pub new : ¬ (newcomer.id among ids_of v)
  pub front : List Contact
  pub back : List Contact
  pub oldest : LongestUnseen v (log_of v newcomer) out front back
  pub stands : a ≡ replacement
  pub now : w.replacements ≡ front ++ back ++ newcomer ∷ []
