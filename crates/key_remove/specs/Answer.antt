-- What an answer of `remove` and the index afterwards stand for: a refused call leaves the very index, equal in every byte.
use Rattle.std.specs.Prelude.{ℕ, List, Result, Ok, Err}
use Rattle.refusal.specs.Says.{Said, says_of}
use Rattle.refusal.specs.declared.Refusal.{Refusal}
use Rattle.key_index.specs.View.{View, view}
use Rattle.key_index.specs.declared.KeyIndex.{KeyIndex}
use Rattle.key_remove.specs.Remove.{Removing, refused, removed, remove_of}

-- an outcome with the index that a refused call leaves
pub data Given : Type 0 where
  back : Said → KeyIndex → Given
  now : View → Given

abbrev pub given_by : KeyIndex → Removing → Given
given_by index (refused says) = back says index
given_by index (removed v) = now v

-- what the answer and the index afterwards stand for
abbrev pub meaning_of : Result (Unit {0}) Refusal → KeyIndex → Given
meaning_of (Ok _) index = now (view index)
meaning_of (Err why) index = back (says_of why) index

-- what a call at a limit must answer
abbrev pub remove_for : ℕ → KeyIndex → List ℕ → Given
remove_for limit index bytes = given_by index (remove_of limit (view index) bytes)
