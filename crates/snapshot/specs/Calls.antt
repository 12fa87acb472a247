-- What `save` and `reload` answer. Saving tests 0, then 13; reloading tests 0, then 14 with the bad line.
use Rattle.std.specs.Prelude.{ℕ, cond, List, leb, length, Result, Ok, Err}
use Rattle.refusal.specs.Says.{Said, only, at_line, says_of}
use Rattle.refusal.specs.Outcome.{Outcome, given, refused}
use Rattle.refusal.specs.declared.Refusal.{Refusal}
use Rattle.key_index.specs.View.{View, view}
use Rattle.key_index.specs.Good.{good}
use Rattle.key_index.specs.declared.KeyIndex.{KeyIndex}
use Rattle.snapshot.specs.Text.{snapshot_of}
use Rattle.snapshot.specs.Load.{Loading, bad_line, loaded, load_of}

-- the text that saving into a buffer of this length writes, or the refusal
abbrev pub save_of : ℕ → View → ℕ → Outcome (List ℕ)
save_of limit v room =
    cond (good limit v) (cond (leb (length (snapshot_of v)) room) (given (snapshot_of v)) (refused 13)) (refused 0)

-- what a reload call comes to: refused, with the very index handed in, or a view
pub data Reloading : Type 0 where
  back : Said → KeyIndex → Reloading
  now : View → Reloading

abbrev pub reloaded_by : KeyIndex → Loading → Reloading
reloaded_by index (bad_line line) = back (at_line 14 line) index
reloaded_by index (loaded v) = now v

-- what a call at a limit must answer: 0 for an index that breaks its rules, then 14 with its line
abbrev pub reload_for : ℕ → KeyIndex → List ℕ → Reloading
reload_for limit index text = cond (good limit (view index)) (reloaded_by index (load_of text)) (back (only 0) index)

-- what an answer of `reload` and the index afterwards stand for
abbrev pub meaning_of : Result (Unit {0}) Refusal → KeyIndex → Reloading
meaning_of (Ok _) index = now (view index)
meaning_of (Err why) index = back (says_of why) index
