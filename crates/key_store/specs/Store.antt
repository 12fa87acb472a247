-- Storing a key with its content, on the view of an index, over the limit on its keys, with the newest known block number. The tests come in
-- the order of documents 01 and 02: 0, 7, 8, 17, 16, 9, 11, 10.
use Rattle.std.specs.Prelude.{ℕ, cond, List, leb, ltb, length}
use Rattle.refusal.specs.Says.{Said, only}
use Rattle.refusal.specs.Outcome.{Outcome}
use Rattle.octets.specs.Bytes.{be}
use Rattle.content_key.specs.Key.{block_of, key_of}
use Rattle.rlp.specs.Content.{content_of}
use Rattle.rlp.specs.declared.Payload.{Payload}
use Rattle.nearest.specs.Insert.{insert, offer}
use Rattle.key_index.specs.View.{View, with_keys}
use Rattle.key_index.specs.Good.{away_from, good, last_of, radius_of}
use Rattle.key_index.specs.Calls.{is_held}

-- what a store call comes to: refused, stored, or stored with a key evicted ("kept" and "turned out" in document 01); a stored one hands on
-- where the payload stands in the content
pub data Storing : Type 0 where
  refused : Said → Storing
  stored : Payload → View → Storing
  evicted : Payload → List ℕ → View → Storing

-- the view to go on with
abbrev pub next_of : View → Storing → View
next_of v (refused says) = v
next_of v (stored payload w) = w
next_of v (evicted payload key w) = w

-- the payload's place that an accepted call hands on; a refused one carries none
abbrev pub handed_on : Storing → Outcome Payload
handed_on (refused says) = Outcome.refusal says
handed_on (stored payload w) = Outcome.given payload
handed_on (evicted payload key w) = Outcome.given payload

-- the key goes to its place by distance; a full index loses its farthest key, which is named
unfoldable pub put_of : ℕ → View → List ℕ → Payload → Storing
put_of limit v key payload =
    cond (ltb (length v.keys) limit)
    (stored payload (with_keys v (insert (away_from v.node) key v.keys)))
    (evicted payload (last_of v.keys) (with_keys v (offer (away_from v.node) limit key v.keys)))

-- 11 where the key is held, 10 where its distance is over the announced radius
unfoldable pub admit_of : ℕ → View → List ℕ → Payload → Storing
admit_of limit v key payload =
    cond (is_held key v) (refused (only 11))
    (cond (leb (away_from v.node key) (be (radius_of limit v))) (put_of limit v key payload)
    (refused (only 10)))

-- 17 for a key whose number is over the newest known one; else what the content is: where its payload stands, or 16 or 9
unfoldable pub examine_of : List ℕ → List ℕ → ℕ → Outcome Payload
examine_of key content newest = cond (leb (block_of key) newest) (content_of content) (Outcome.refusal (only 17))

-- refused as the key and its content are
abbrev pub content_store_of : ℕ → View → List ℕ → Outcome Payload → Storing
content_store_of limit v key (Outcome.given payload) = admit_of limit v key payload
content_store_of limit v key (Outcome.refusal says) = refused says

-- 7 or 8 for what is no key
abbrev pub key_store_of : ℕ → View → List ℕ → ℕ → Outcome (List ℕ) → Storing
key_store_of limit v content newest (Outcome.given key) = content_store_of limit v key (examine_of key content newest)
key_store_of limit v content newest (Outcome.refusal says) = refused says

-- any bytes as a key, with any bytes as its content, and any number as the newest
unfoldable pub store_of : ℕ → View → List ℕ → List ℕ → ℕ → Storing
store_of limit v bytes content newest = cond (good limit v) (key_store_of limit v content newest (key_of bytes)) (refused (only 0))
