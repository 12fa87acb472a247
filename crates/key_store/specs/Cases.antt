-- The cases of a store call on a view of bytes: each refusal with its reason, a key stored below the limit, and a key stored in the place of
-- the last one at the limit.
use Rattle.std.specs.Prelude.{ℕ, ◌≤◌, ◌<◌, ◌≡◌, true, false, List, [], ◌∷◌, ◌++◌, length}
use Rattle.refusal.specs.Says.{Said, only}
use Rattle.refusal.specs.Outcome.{given, refusal}
use Rattle.octets.specs.Bytes.{Bytes, be}
use Rattle.content_key.specs.Key.{selector_of, block_of}
use Rattle.rlp.specs.Content.{content_of}
use Rattle.rlp.specs.declared.Payload.{Payload}
use Rattle.nearest.specs.Sorted.{◌among◌, distances}
use Rattle.nearest.specs.Insert.{insert, offer}
use Rattle.key_index.specs.View.{View, with_keys}
use Rattle.key_index.specs.Good.{away_from, good, last_of, radius_of}
use Rattle.key_index.specs.Keys.{Each, NineBytes}
use Rattle.key_store.specs.Store.{Storing, refused, stored, evicted}

-- a view made of bytes, as that of any index: a node id of 32 and keys of nine
pub record OfBytes (v : View) : Type 0 where
  pub size : length v.node ≡ 32
  pub node : Bytes v.node
  pub each : Each NineBytes v.keys

-- a key of a known block with acceptable content, whose payload stands there, asked of a good index
pub record Asked (limit : ℕ) (v : View) (key content : List ℕ) (newest : ℕ) (payload : Payload) : Type 0 where
  pub kept : good limit v ≡ true
  pub size : length key ≡ 9
  pub selector : selector_of key ≤ 1
  pub known : block_of key ≤ newest
  pub listed : content_of content ≡ given payload

-- one that is not held, by its bytes and by its distance
pub record Fresh (v : View) (key : List ℕ) : Type 0 where
  pub out : ¬ (key among v.keys)
  pub apart : ¬ (away_from v.node key among distances (away_from v.node) v.keys)

-- a call and its outcome: each refusal with its reason; stored below the limit; at the limit stored with the last key evicted, which is
-- farther than the new one
pub data Stores (limit : ℕ) (v : View) (key content : List ℕ) (newest : ℕ) : Storing → Type 0 where
  bad : good limit v ≡ false → Stores limit v key content newest (refused (only 0))
  no_length : good limit v ≡ true → ¬ (length key ≡ 9) → Stores limit v key content newest (refused (only 7))
  no_selector : good limit v ≡ true → length key ≡ 9 → 1 < selector_of key → Stores limit v key content newest (refused (only 8))
  future : good limit v ≡ true → length key ≡ 9 → selector_of key ≤ 1 → newest < block_of key → Stores limit v key content newest (refused (only 17))
  no_content : {says : Said} → good limit v ≡ true → length key ≡ 9 → selector_of key ≤ 1 → block_of key ≤ newest → content_of content ≡ refusal says
      → Stores limit v key content newest (refused says)
  held : {payload : Payload} → Asked limit v key content newest payload → key among v.keys → Stores limit v key content newest (refused (only 11))
  beyond : {payload : Payload} → Asked limit v key content newest payload → Fresh v key → be (radius_of limit v) < away_from v.node key
      → Stores limit v key content newest (refused (only 10))
  room : {payload : Payload} → Asked limit v key content newest payload → Fresh v key → length v.keys < limit → away_from v.node key ≤ be v.cap
      → Stores limit v key content newest (stored payload (with_keys v (insert (away_from v.node) key v.keys)))
  full : {payload : Payload} → Asked limit v key content newest payload → Fresh v key → length v.keys ≡ limit → (front : List (List ℕ))
      → v.keys ≡ front ++ last_of v.keys ∷ []
      → away_from v.node key < away_from v.node (last_of v.keys)
      → Stores limit v key content newest (evicted payload (last_of v.keys) (with_keys v (offer (away_from v.node) limit key v.keys)))
