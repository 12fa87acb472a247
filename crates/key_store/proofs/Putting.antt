-- A key put into a flat array gives the keys of the definition: with room left by insertion behind the nearer keys, and in a full array by
-- the same among all but the last key, which leaves. Assumes nothing.
use Prim.Native.Nat.{ℕ, suc, ◌+◌, ◌*◌, ◌≤◌, ◌<◌}
use native.Mathlib.Decide.{dec_lt}
use native.Mathlib.Nat.{le_of_lt}
use native.Mathlib.Numerals.{add-one}
use native.Mathlib.Omega.{arith}
use mathlib.Core.Path.{◌≡◌, refl, sym, ap, ap₂, subst, ◌∙◌}
use mathlib.Core.Bool.{false}
use mathlib.Core.List.{List, [], ◌∷◌, ◌++◌}
use lib.ListN.{length, get_or, take, drop}
use borrow.Author.Rules.{rules}
use borrow.Author.Tests.{leb-true, lt-ltb, le-ltb}
use Rattle.octets.proofs.Numbers.{bytes_all}
use Rattle.rlp.specs.declared.Payload.{Payload}
use Rattle.nearest.specs.Sorted.{◌among◌, distances}
use Rattle.nearest.specs.Insert.{insert, offer}
use Rattle.nearest.proofs.Sorted.{distances_front}
use Rattle.nearest.proofs.Offer.{offer_near}
use Rattle.key_index.specs.View.{View, view_of, view, chunks, key_at, with_keys}
use Rattle.key_index.specs.Good.{away_from, last_of}
use Rattle.key_index.specs.Calls.{is_held}
use Rattle.key_index.specs.Keys.{NineBytes}
use Rattle.key_index.specs.declared.KeyIndex.{KeyIndex}
use Rattle.key_index.proofs.Chunks.{chunks_length, chunks_more, key_at_in}
use Rattle.key_index.proofs.Rules.{good_facts}
use Rattle.key_store.specs.Store.{stored, evicted, put_of}
use Rattle.key_store.specs.Answer.{without, given_by}
use Rattle.key_store.specs.Move.{nearer, key_at_place}
use Rattle.key_store.specs.Judge.{Fits}
use Rattle.key_store.specs.Cases.{OfBytes}
use Rattle.key_store.proofs.Nearer.{nearer_most, nearer_front, insert_behind}
use Rattle.key_store.proofs.Flat.{chunks_place}
use Rattle.key_index.proofs.Answers.{full_last}
use Rattle.key_store.proofs.Facts.{sorted_near, new_distance, nearer_last, full_count}

module _ (limit : ℕ) (v : View) (key : List ℕ) (payload : Payload) where
  pub put_room : length v.keys < limit → put_of limit v key payload ≡ stored payload (with_keys v (insert (away_from v.node) key v.keys))
  unfolding put_of
  put_room h = rw (lt-ltb (length v.keys) limit h)

  pub put_full : limit ≤ length v.keys → put_of limit v key payload ≡ evicted payload (last_of v.keys) (with_keys v (offer (away_from v.node) limit key v.keys))
  unfolding put_of
  put_full h = rw (le-ltb (length v.keys) limit h)

-- a key written behind the nearer keys is inserted
module _ (node key b : List ℕ) (l : length key ≡ 9) where
  chunks_room : (count p : ℕ) → 9 * suc count ≤ length b → p ≡ nearer node (away_from node key) (chunks count b)
      → ¬ (away_from node key among distances (away_from node) (chunks count b))
      → chunks (suc count) (key_at_place p count key b) ≡ insert (away_from node) key (chunks count b)
  chunks_room count p long e new =
      let few = nearer_most node (away_from node key) (chunks count b) in
      let n = chunks_length count b in
      chunks_place p count key b l (omega arith) long
      ∙ ap (λ (q : ℕ). take q (chunks count b) ++ key ∷ drop q (chunks count b)) e
      ∙ sym (insert_behind node key (chunks count b) new)

-- the index with the key at place p, behind the nearer keys, has the view that the definition gives
module _ (limit : ℕ) (index : KeyIndex) (key : List ℕ) (nine : NineBytes key) (p : ℕ) (f : Fits limit (view index) key p) where
  new : ¬ (away_from index.node key among distances (away_from index.node) (chunks index.count index.keys))
  new = new_distance (view index) key f.made nine f.new

  -- the place is among those in use, or right behind them
  pub place_most : p ≤ index.count
  place_most =
      let most = nearer_most index.node (away_from index.node key) (chunks index.count index.keys) in
      omega (arith, f.at, chunks_length index.count index.keys)

-- with room left the key is inserted, and the index has one key more
pub room_put : (limit : ℕ) (node cap keys : List ℕ) (count : ℕ) (key : List ℕ) (payload : Payload)
    → is_held key (view_of node cap keys count) ≡ false → OfBytes (view_of node cap keys count) → count < limit → 9 * limit ≤ length keys
    → length key ≡ 9 → ((j : ℕ) → get_or key j 0 < 256)
    → put_of limit (view_of node cap keys count) key payload
    ≡ stored payload (view_of node cap (key_at_place (nearer node (away_from node key) (chunks count keys)) count key keys) (count + 1))
room_put limit node cap keys count key payload out o room long nine key_bytes =
    let v = view_of node cap keys count in
    let k : NineBytes key = record { size = nine; bytes = bytes_all key key_bytes } in
    let p = nearer node (away_from node key) (chunks count keys) in
    put_room limit v key payload (omega (arith, chunks_length count keys))
    ∙ ap (λ (ks : List (List ℕ)). stored payload (with_keys v ks))
    (sym
    (ap (λ (m : ℕ). chunks m (key_at_place p count key keys)) (add-one count)
    ∙ chunks_room node key keys nine count p (omega arith) refl (new_distance v key o k out)))

-- a full index, whose last place is `last`
module _ (last : ℕ) (index : KeyIndex) (key : List ℕ) (nine : NineBytes key) (p : ℕ)
    (f : Fits (suc last) (view index) key p) (h : suc last ≤ index.count) (long : 9 * suc last ≤ length index.keys) where
  full : index.count ≡ suc last
  full = full_count last index.count index.node index.cap index.keys f.kept h

  before : away_from index.node key < away_from index.node (last_of (chunks index.count index.keys))
  before =
      nearer_last (suc last) (view index) key (omega (arith, chunks_length index.count index.keys)) (omega arith)
      (new (suc last) index key nine p f) (leb-true _ _ f.near)

  apart : chunks index.count index.keys ≡ chunks last index.keys ++ last_of (chunks index.count index.keys) ∷ []
  apart =
      ap (λ (m : ℕ). chunks m index.keys) full
      ∙ chunks_more last index.keys
      ∙ ap (λ (k : List ℕ). chunks last index.keys ++ k ∷ [])
      (sym (key_at_in index.keys last long) ∙ full_last last index.count last index.keys _ refl refl full long)

  -- the key's place is among the others'
  place : p ≡ nearer index.node (away_from index.node key) (chunks last index.keys)
  place =
      f.at
      ∙ ap (nearer index.node (away_from index.node key)) apart
      ∙ nearer_front index.node (away_from index.node key) (chunks last index.keys) (last_of (chunks index.count index.keys)) (le_of_lt before)

  pub full_place : p ≤ last
  full_place =
      let most = nearer_most index.node (away_from index.node key) (chunks last index.keys) in
      omega (arith, place, chunks_length last index.keys)

  pub full_answer : (payload : Payload) (from to n at : ℕ) (keys left : List ℕ) (handed : Payload)
      → keys ≡ key_at_place from to key index.keys → left ≡ key_at index.keys at
      → from ≡ p → to ≡ last → n ≡ suc last → at ≡ last → handed ≡ payload
      → without handed left (view_of index.node index.cap keys n) ≡ given_by index (put_of (suc last) (view index) key payload)
  full_answer payload from to n at keys left handed is read a b c d e =
      let ks = chunks index.count index.keys in
      let fresh = new (suc last) index key nine p f in
      let due = sym (put_full (suc last) (view index) key payload (omega (arith, chunks_length index.count index.keys))) in
      let gone : left ≡ last_of ks =
      full_last last index.count at index.keys left read d full long in
      let held : chunks n keys ≡ offer (away_from index.node) (suc last) key ks =
      ap₂ chunks c (is ∙ ap₂ (λ (i j : ℕ). key_at_place i j key index.keys) a b)
      ∙ chunks_room index.node key index.keys nine.size last p long place
      (λ m. fresh (subst (λ (l : List (List ℕ)). away_from index.node key among distances (away_from index.node) l) (sym apart) (distances_front (away_from index.node) (chunks last index.keys) (last_of ks ∷ []) m)))
      ∙ sym (offer_near (away_from index.node) key (suc last) ks (chunks last index.keys) (last_of ks)
      (sorted_near index.node 0 ks (good_facts (suc last) (view index) f.kept).each.sorted)
      (chunks_length index.count index.keys ∙ full) apart fresh before) in
      ap (λ (q : Payload). without q left (view_of index.node index.cap keys n)) e
      ∙ ap₂ (λ (k : List ℕ) (l : List (List ℕ)). without payload k (with_keys (view index) l)) gone held
      ∙ ap (given_by index) due

-- full or not, the place is no farther than the last one
pub place_within : (last : ℕ) (index : KeyIndex) (key : List ℕ) → NineBytes key → (p : ℕ) → Fits (suc last) (view index) key p
    → 9 * suc last ≤ length index.keys → p ≤ last
place_within last index key nine p f long = go (dec_lt index.count (suc last))
  where
    go : Dec (index.count < suc last) → p ≤ last
    go (yes h) = omega (arith, place_most (suc last) index key nine p f)
    go (no h) = full_place last index key nine p f (omega arith) long

-- what a key put in the room left comes to, with what an array of bytes is
pub ruleset putting = (rules, room_put)
