-- A run of calls of the code, each answered as its contract says and each on the index that the one before it left.
use Rattle.std.specs.Prelude.{ℕ, ◌≡◌, List, [], ◌∷◌, Option, Some, None, Result, Ok, Err}
use Rattle.refusal.specs.Says.{says_of}
use Rattle.refusal.specs.declared.Refusal.{Refusal}
use Rattle.runs.specs.Views.{View, Call, store, remove, reload, Answer, refused, stored, evicted, removed, reloaded}
use Rattle.key_index.specs.View.{key_limit, view}
use Rattle.key_index.specs.declared.KeyIndex.{KeyIndex}
use Rattle.key_store.specs.Answer as stores
use Rattle.key_store.specs.declared.Stored.{Stored}
use Rattle.key_remove.specs.Answer as removes
use Rattle.snapshot.specs.Calls as reloads
use Rattle.demands.specs.Box.{Raw, Brought, grouped}
use Rattle.demands.specs.Setting.{box}

-- the view of an index of the code
abbrev pub viewed : KeyIndex → View box
viewed index = grouped (view index)

-- what an accepted answer of `store` says, by the key that left
abbrev pub kept_says : Option (List ℕ) → Answer box
kept_says None = stored
kept_says (Some key) = evicted key

-- what an answer of `store` says, beside the index afterwards
abbrev pub store_says : Result Stored Refusal → Answer box
store_says (Ok s) = kept_says s.evicted
store_says (Err why) = refused (says_of why)

-- what an answer of `remove` or `reload` says, given the word for accepted
abbrev pub check_says : Answer box → Result (Unit {0}) Refusal → Answer box
check_says word (Ok _) = word
check_says word (Err why) = refused (says_of why)

-- index, call, the index afterwards, what the answer says: the answer meets the contract of the call
pub data Answered (index : KeyIndex) : Call box → KeyIndex → Answer box → Type 0 where
  storing : {raw : Raw} {brought : Brought} (r : Result Stored Refusal) (after : KeyIndex)
      → stores.meaning_of r after ≡ stores.store_for key_limit index raw.bytes brought.content brought.newest
      → Answered index (store raw brought) after (store_says r)
  removing : {raw : Raw} (r : Result (Unit {0}) Refusal) (after : KeyIndex) → removes.meaning_of r after ≡ removes.remove_for key_limit index raw.bytes
      → Answered index (remove raw) after (check_says removed r)
  reloading : {text : List ℕ} (r : Result (Unit {0}) Refusal) (after : KeyIndex) → reloads.meaning_of r after ≡ reloads.reload_for key_limit index text
      → Answered index (reload text) after (check_says reloaded r)

-- one call after another: first index, calls, last index, what the answers say
pub data Answers : KeyIndex → List (Call box) → KeyIndex → List (Answer box) → Type 0 where
  none : {index : KeyIndex} → Answers index [] index []
  next : {index middle last : KeyIndex} {c : Call box} {cs : List (Call box)} {a : Answer box} {told : List (Answer box)}
      → Answered index c middle a → Answers middle cs last told → Answers index (c ∷ cs) last (a ∷ told)
