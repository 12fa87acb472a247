-- What the cases of storing rest on: a key that is not held has a distance of its own, since a distance gives its key back; a full index
-- has a last key, which is its farthest. Assumes nothing.
use Prim.Native.Nat.{ℕ, suc, ◌≤◌, ◌<◌}
use native.Mathlib.Nat.{le_of_lt}
use native.Mathlib.Omega.{arith}
use mathlib.Core.Path.{◌≡◌, refl, sym, ap, subst, ◌∙◌}
use mathlib.Core.Bool.{Bool, true, false, true≢false}
use mathlib.Core.List.Memᴰ
use mathlib.Core.List.{List, [], ◌∷◌, ◌++◌, Memᴰ}
use mathlib.Core.Logic.{⊎_elim}
use lib.Dec.{ltb}
use lib.ListN.{length}
use borrow.Author.Tests.{ltb-true, ltb-false}
use Rattle.octets.specs.Bytes.{Bytes, be}
use Rattle.octets.proofs.Numbers.{bytes_at_lem}
use Rattle.octets.proofs.Equal.{member_holds}
use Rattle.distance.proofs.Exclusive.{distance_inj}
use Rattle.content_key.specs.Key.{key_id, selector_of, block_of}
use Rattle.content_key.proofs.Ids.{id_length, id_bytes_ok, key_id_inj}
use Rattle.nearest.specs.Sorted.{◌among◌, distances}
use Rattle.nearest.specs.Sorted as near
use Rattle.nearest.proofs.Sorted.{sorted_last}
use Rattle.nearest.proofs.Lists.{middle_self, last_split}
use Rattle.key_index.specs.View.{View, chunks}
use Rattle.key_index.specs.Good.{away_from, good, last_of, radius_of}
use Rattle.key_index.specs.Calls.{is_held}
use Rattle.key_index.specs.Keys.{NineBytes}
use Rattle.key_index.specs.Rules.{SortedFrom, Good}
use Rattle.key_index.proofs.Each.{each_member}
use Rattle.key_index.proofs.Chunks.{chunks_length}
use Rattle.key_index.proofs.Rules.{good_facts}
use Rattle.key_index.proofs.Answers.{reach_room, reach_full}
use Rattle.key_store.specs.Cases.{OfBytes}

-- the two ways to say sorted
pub sorted_near : (node : List ℕ) (from : ℕ) (ks : List (List ℕ)) → SortedFrom node from ks → near.SortedFrom (away_from node) from ks
sorted_near node from [] s = tt
sorted_near node from (k ∷ ks) s = (s.0, sorted_near node (suc (away_from node k)) ks s.1)

pub near_sorted : (node : List ℕ) (from : ℕ) (ks : List (List ℕ)) → near.SortedFrom (away_from node) from ks → SortedFrom node from ks
near_sorted node from [] s = tt
near_sorted node from (k ∷ ks) s = (s.0, near_sorted node (suc (away_from node k)) ks s.1)

-- keys at one distance are the same
pub away_inj : (node j k : List ℕ) → length node ≡ 32 → Bytes node → NineBytes j → NineBytes k → away_from node j ≡ away_from node k → j ≡ k
away_inj node j k l n hj hk e =
    key_id_inj j k hj.bytes hk.bytes hj.size hk.size
    (distance_inj node (key_id j) (key_id k) (l ∙ sym (id_length (selector_of j) (block_of j))) (l ∙ sym (id_length (selector_of k) (block_of k))) n
    (id_bytes_ok (selector_of j) (block_of j) (bytes_at_lem j hj.bytes 0))
    (id_bytes_ok (selector_of k) (block_of k) (bytes_at_lem k hk.bytes 0)) e)

module _ (v : View) (key : List ℕ) where
  -- a key that is not held is at a distance that no held key has
  pub new_distance : OfBytes v → NineBytes key → is_held key v ≡ false → ¬ (away_from v.node key among distances (away_from v.node) v.keys)
  new_distance o nine out m =
      let t = Memᴰ.of_map (away_from v.node) v.keys m in
      let e : t.0 ≡ key = away_inj v.node t.0 key o.size o.node (each_member NineBytes v.keys o.each t.1) nine t.2 in
      true≢false (sym (member_holds key v.keys (subst (λ (k : List ℕ). Memᴰ k v.keys) e t.1)) ∙ out)

last_end : (xs : List (List ℕ)) (far : List ℕ) → last_of (xs ++ far ∷ []) ≡ far
unfolding last_of
last_end [] far = refl
last_end (x ∷ []) far = refl
last_end (x ∷ y ∷ xs) far = last_end (y ∷ xs) far

-- keys with the last one apart
pub last_apart : (l : List (List ℕ)) → 0 < length l → (xs : List (List ℕ)) × (l ≡ xs ++ last_of l ∷ [])
last_apart l h =
    let s = last_split l h in
    let e : last_of l ≡ s.1 = ap last_of s.2 ∙ last_end s.0 s.1 in
    (s.0, s.2 ∙ ap (λ (k : List ℕ). s.0 ++ k ∷ []) (sym e))

module _ (limit : ℕ) (v : View) where
  -- a new key within the radius of a full index is nearer than the last
  pub nearer_last : (key : List ℕ) → limit ≤ length v.keys → 0 < limit → ¬ (away_from v.node key among distances (away_from v.node) v.keys)
      → away_from v.node key ≤ be (radius_of limit v) → away_from v.node key < away_from v.node (last_of v.keys)
  nearer_last key full some new h =
      let s = last_apart v.keys (omega arith) in
      let i : last_of v.keys among v.keys =
      subst (λ (l : List (List ℕ)). last_of v.keys among l) (sym s.1) (middle_self s.0 (last_of v.keys) []) in
      let n : ¬ (away_from v.node key ≡ away_from v.node (last_of v.keys)) = λ e. new (Memᴰ.cast e (Memᴰ.map (away_from v.node) i)) in
      omega (arith, ap be (reach_full limit v full))

  -- a held key is within the radius, so 10 and 11 are never both due
  pub held_within : (key : List ℕ) → good limit v ≡ true → key among v.keys → away_from v.node key ≤ be (radius_of limit v)
  held_within key g m = go (ltb (length v.keys) limit) refl
    where
      f : Good limit v
      f = good_facts limit v g

      some : (l : List (List ℕ)) → key among l → 0 < length l
      some [] n = absurd (Memᴰ.not-nil n)
      some (k ∷ l) n = omega arith

      last : 0 < length v.keys → away_from v.node key ≤ away_from v.node (last_of v.keys)
      last h =
          let s = last_apart v.keys h in
          let far = last_of v.keys in
          let sorted : near.SortedFrom (away_from v.node) 0 (s.0 ++ far ∷ []) =
          subst (λ (l : List (List ℕ)). near.SortedFrom (away_from v.node) 0 l) s.1 (sorted_near v.node 0 v.keys f.each.sorted) in
          ⊎_elim (λ i. le_of_lt (sorted_last (away_from v.node) 0 s.0 far sorted i)) (λ i. omega (arith, ap (away_from v.node) (Memᴰ.eq_of_singleton i)))
          (Memᴰ.append_cases s.0 (subst (λ (l : List (List ℕ)). key among l) s.1 m))

      go : (t : Bool) → ltb (length v.keys) limit ≡ t → away_from v.node key ≤ be (radius_of limit v)
      go true e =
          let w : away_from v.node key ≤ be v.cap = each_member (λ (k : List ℕ). away_from v.node k ≤ be v.cap) v.keys f.each.within m in
          omega (arith, ap be (reach_room limit v (ltb-true (length v.keys) limit e)))
      go false e = omega (arith, ap be (reach_full limit v (ltb-false (length v.keys) limit e)), last (some v.keys m))

-- a flat array of as many keys as the limit
module _ (n count : ℕ) (node cap b : List ℕ) (g : good (suc n) (record { node = node; cap = cap; keys = chunks count b }) ≡ true)
    (h : suc n ≤ count) where
  pub full_count : count ≡ suc n
  full_count =
      let few = (good_facts (suc n) (record { node = node; cap = cap; keys = chunks count b }) g).few in
      omega (arith, chunks_length count b)
