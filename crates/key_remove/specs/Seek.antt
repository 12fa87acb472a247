-- What the tests of a remove call say before the index is changed: why it is refused, or the place of the key.
use Rattle.std.specs.Prelude.{ℕ, ◌≤◌, ◌<◌, ◌≡◌, List, length, Result, Ok, Err}
use Rattle.refusal.specs.Says.{says_of}
use Rattle.refusal.specs.declared.Refusal.{Refusal}
use Rattle.key_index.specs.View.{View, with_keys}
use Rattle.key_remove.specs.Remove.{refused, removed, without_at, remove_of}

-- the call is refused, and so says the answer, or the key at a place in use is the one to remove
pub record Seeks (limit : ℕ) (v : View) (bytes : List ℕ) (r : Result ℕ Refusal) : Type 0 where
  pub refuses : (why : Refusal) → r ≡ Err why → remove_of limit v bytes ≡ refused (says_of why)
  pub finds : (place : ℕ) → r ≡ Ok place → remove_of limit v bytes ≡ removed (with_keys v (without_at place v.keys))
  pub inside : (place : ℕ) → r ≡ Ok place → (place < length v.keys) × (length v.keys ≤ limit)
