-- What the calls on an index answer, case by case; the last key of a full array. Assumes nothing.
use Prim.Native.Nat.{ℕ, zero, suc, ◌*◌, ◌≤◌, ◌<◌}
use mathlib.Core.Path.{◌≡◌, refl, sym, ap, ◌∙◌}
use mathlib.Core.Bool.{true}
use mathlib.Core.List.{List}
use lib.ListN.{length, take, drop}
use borrow.Author.Tests.{lt-ltb, le-ltb}
use Rattle.refusal.specs.Outcome.{given, map_outcome}
use Rattle.distance.specs.Distance.{xor_of}
use Rattle.content_key.specs.Key.{key_of, key_id}
use Rattle.key_index.specs.View.{View, chunks, key_at}
use Rattle.key_index.specs.Good.{good, last_of, radius_of}
use Rattle.key_index.specs.Calls.{radius_for, holds_for, is_held}
use Rattle.key_index.proofs.Chunks.{next, key_at_in}

-- the last of n + 1 keys
pub last_chunks : (n : ℕ) (b : List ℕ) → last_of (chunks (suc n) b) ≡ take 9 (drop (9 * n) b)
unfolding last_of chunks
last_chunks zero b = refl
last_chunks (suc n) b = last_chunks n (drop 9 b) ∙ ap (take 9) (next n b)

module _ (limit : ℕ) (v : View) where
  -- a good index has a radius
  pub radius_given : good limit v ≡ true → given (radius_of limit v) ≡ radius_for limit v
  radius_given g = rw g

  -- with room left the radius is the cap
  pub reach_room : length v.keys < limit → radius_of limit v ≡ v.cap
  unfolding radius_of
  reach_room h = rw (lt-ltb (length v.keys) limit h)

  -- that of a full index is the distance of its last key
  pub reach_full : limit ≤ length v.keys → radius_of limit v ≡ xor_of v.node (key_id (last_of v.keys))
  unfolding radius_of
  reach_full h = rw (le-ltb (length v.keys) limit h)

  -- a key is looked for
  pub holds_given : (bytes : List ℕ) {key : List ℕ} → good limit v ≡ true → given key ≡ key_of bytes
      → given (is_held key v) ≡ holds_for limit v bytes
  holds_given bytes g k = rw g (ap (map_outcome (λ (key : List ℕ). is_held key v)) k)

-- the key that was read at the last place of a full array is the last one
pub full_last : (n count at : ℕ) (b key : List ℕ) → key ≡ key_at b at → at ≡ n → count ≡ suc n → 9 * suc n ≤ length b → key ≡ last_of (chunks count b)
full_last n count at b key read last full long =
    read
    ∙ ap (key_at b) last
    ∙ key_at_in b n long
    ∙ sym (ap (λ (m : ℕ). last_of (chunks m b)) full ∙ last_chunks n b)
