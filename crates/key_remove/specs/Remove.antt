-- Removing a key, on the view of an index, over the limit on its keys. The tests come in document 01's order: 0, 7, 8, 12.
use Rattle.std.specs.Prelude.{ℕ, suc, cond, List, [], ◌∷◌, ◌++◌, ◌≡◌, take, drop}
use Rattle.refusal.specs.Says.{Said, only}
use Rattle.refusal.specs.Outcome.{Outcome}
use Rattle.octets.specs.Equal.{same_bytes}
use Rattle.content_key.specs.Key.{key_of}
use Rattle.key_index.specs.View.{View, with_keys}
use Rattle.key_index.specs.Good.{good}
use Rattle.key_index.specs.Calls.{is_held}

-- what a remove call comes to
pub data Removing : Type 0 where
  refused : Said → Removing
  removed : View → Removing

-- the keys without one of them; the others keep their order
unfoldable pub without : List ℕ → List (List ℕ) → List (List ℕ)
without key [] = []
without key (k ∷ ks) = cond (same_bytes key k) ks (k ∷ without key ks)

-- the keys without the one at a place
unfoldable pub without_at : ℕ → List (List ℕ) → List (List ℕ)
without_at place keys = take place keys ++ drop (suc place) keys

-- a list of keys that holds one, taken apart around it
pub record Split (key : List ℕ) (keys : List (List ℕ)) : Type 0 where
  pub before : List (List ℕ)
  pub after : List (List ℕ)
  pub whole : keys ≡ before ++ key ∷ after
  pub rest : without key keys ≡ before ++ after

-- 7 or 8 for what is no key, 12 for a key that is not held
abbrev pub key_remove_of : View → Outcome (List ℕ) → Removing
key_remove_of v (Outcome.given key) = cond (is_held key v) (removed (with_keys v (without key v.keys))) (refused (only 12))
key_remove_of v (Outcome.refusal says) = refused says

unfoldable pub remove_of : ℕ → View → List ℕ → Removing
remove_of limit v bytes = cond (good limit v) (key_remove_of v (key_of bytes)) (refused (only 0))
