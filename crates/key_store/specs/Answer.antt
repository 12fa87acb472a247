-- What an answer of `store` and the index afterwards stand for: a refused call leaves the very index, equal in every byte; an accepted one an
-- index with the view that the definition gives, and where the payload stands.
use Rattle.std.specs.Prelude.{ℕ, List, Option, Some, None, Result, Ok, Err}
use Rattle.refusal.specs.Says.{Said, says_of}
use Rattle.refusal.specs.declared.Refusal.{Refusal}
use Rattle.rlp.specs.declared.Payload.{Payload}
use Rattle.key_index.specs.View.{View, view}
use Rattle.key_index.specs.declared.KeyIndex.{KeyIndex}
use Rattle.key_store.specs.Store.{Storing, refused, stored, evicted, store_of}
use Rattle.key_store.specs.declared.Stored.{Stored}

-- an outcome with the index that a refused call leaves
pub data Given : Type 0 where
  back : Said → KeyIndex → Given
  now : Payload → View → Given
  without : Payload → List ℕ → View → Given

abbrev pub given_by : KeyIndex → Storing → Given
given_by index (refused says) = back says index
given_by index (stored payload v) = now payload v
given_by index (evicted payload key v) = without payload key v

abbrev pub handed_by : Payload → Option (List ℕ) → View → Given
handed_by payload None v = now payload v
handed_by payload (Some key) v = without payload key v

-- what an accepted call hands on, with the index afterwards
abbrev pub handed : Stored → KeyIndex → Given
handed s index = handed_by s.payload s.evicted (view index)

-- what the answer and the index afterwards stand for
abbrev pub meaning_of : Result Stored Refusal → KeyIndex → Given
meaning_of (Ok s) index = handed s index
meaning_of (Err why) index = back (says_of why) index

-- what a call at a limit must answer
abbrev pub store_for : ℕ → KeyIndex → List ℕ → List ℕ → ℕ → Given
store_for limit index bytes content newest = given_by index (store_of limit (view index) bytes content newest)
