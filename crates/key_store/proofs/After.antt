-- The view after a store call: a good view of bytes stays good. What is stored is the key offered to the held ones, so each key of the
-- result is the new one or was held. Assumes nothing.
use Prim.Native.Nat.{ℕ, ◌≤◌, ◌<◌}
use native.Mathlib.Omega.{arith}
use mathlib.Core.Path.{◌≡◌, sym, subst}
use mathlib.Core.Bool.{true}
use mathlib.Core.Logic.{⊎_elim}
use mathlib.Core.List.{List, [], ◌∷◌, ◌++◌}
use lib.ListN.{length, length-take}
use Rattle.octets.specs.Bytes.{Bytes, be}
use Rattle.content_key.specs.Key.{selector_of}
use Rattle.nearest.specs.Sorted.{◌among◌}
use Rattle.nearest.specs.Insert.{insert, offer}
use Rattle.nearest.proofs.Lists.{among_take, middle_self}
use Rattle.nearest.proofs.Sorted.{sorted_take}
use Rattle.nearest.proofs.Insert.{insert_only, insert_sorted}
use Rattle.nearest.proofs.Offer.{offer_room}
use Rattle.key_index.specs.View.{View, with_keys}
use Rattle.key_index.specs.Good.{away_from, good, last_of}
use Rattle.key_index.specs.Keys.{Each}
use Rattle.key_index.proofs.Each.{each_member, each_all}
use Rattle.key_index.proofs.Rules.{good_facts, facts_good}
use Rattle.key_store.specs.Store.{Storing, store_of, next_of}
use Rattle.key_store.specs.Cases.{OfBytes, Fresh, Stores, bad, no_length, no_selector, future, no_content, held, beyond, room, full}
use Rattle.key_store.proofs.Facts.{sorted_near, near_sorted}
use Rattle.key_store.proofs.Cases.{store_cases}

module _ (limit : ℕ) (v : View) (key : List ℕ) where
  -- what holds of the key and of each held one holds of each one after
  each_offer : (P : List ℕ → Type 0) → P key → Each P v.keys → Each P (offer (away_from v.node) limit key v.keys)
  each_offer P p h =
      each_all P (offer (away_from v.node) limit key v.keys)
      (λ k m. ⊎_elim (λ e. subst P (sym e) p) (λ i. each_member P v.keys h i)
      (insert_only (away_from v.node) key v.keys (among_take limit (insert (away_from v.node) key v.keys) m)))

  offer_good : good limit v ≡ true → selector_of key ≤ 1 → away_from v.node key ≤ be v.cap
      → good limit (with_keys v (offer (away_from v.node) limit key v.keys)) ≡ true
  offer_good g s w =
      let f = (good_facts limit v g).each in
      let after = insert (away_from v.node) key v.keys in
      facts_good limit (with_keys v (offer (away_from v.node) limit key v.keys))
      (record {
        few = omega (arith, length-take limit after);
        each = record {
          selectors = each_offer (λ (k : List ℕ). selector_of k ≤ 1) s f.selectors;
          sorted = near_sorted v.node 0 (offer (away_from v.node) limit key v.keys)
              (sorted_take (away_from v.node) limit 0 after
              (insert_sorted (away_from v.node) key 0 v.keys (omega arith) (sorted_near v.node 0 v.keys f.sorted)));
          within = each_offer (λ (k : List ℕ). away_from v.node k ≤ be v.cap) w f.within;
        };
      })

  -- with room left an insertion is an offer
  as_offer : length v.keys < limit → Fresh v key
      → offer (away_from v.node) limit key v.keys ≡ insert (away_from v.node) key v.keys
  as_offer h f = offer_room (away_from v.node) key limit v.keys h f.apart

  -- the last key of a good view is within the cap
  last_within : good limit v ≡ true → (front : List (List ℕ)) → v.keys ≡ front ++ last_of v.keys ∷ [] → away_from v.node (last_of v.keys) ≤ be v.cap
  last_within g front e =
      each_member (λ (k : List ℕ). away_from v.node k ≤ be v.cap) v.keys (good_facts limit v g).each.within
      (subst (λ (l : List (List ℕ)). last_of v.keys among l) (sym e) (middle_self front (last_of v.keys) []))

module _ (limit : ℕ) (v : View) (key content : List ℕ) (newest : ℕ) (o : OfBytes v) where
  good_case : {s : Storing} → good limit v ≡ true → Stores limit v key content newest s → good limit (next_of v s) ≡ true
  good_case g (bad h) = g
  good_case g (no_length h l) = g
  good_case g (no_selector h l s) = g
  good_case g (future h l s n) = g
  good_case g (no_content h l s n t) = g
  good_case g (held a m) = g
  good_case g (beyond a f h) = g
  good_case g (room a f h w) =
      subst (λ (ks : List (List ℕ)). good limit (with_keys v ks) ≡ true) (as_offer limit v key h f) (offer_good limit v key g a.selector w)
  good_case g (full a f h front e w) = offer_good limit v key g a.selector (omega (arith, last_within limit v key g front e))

  -- a good view stays good
  pub store_good : 0 < limit → Bytes key → good limit v ≡ true → good limit (next_of v (store_of limit v key content newest)) ≡ true
  store_good some b g = good_case g (store_cases limit v key content newest some o b)
