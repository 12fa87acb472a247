-- Views that keep the rules: their radius, keys that are new to them, and views made from them. Assumes nothing.
use Prim.Native.Nat.{◌≤◌, ◌<◌}
use native.Mathlib.Decide.{dec_lt}
use native.Mathlib.Omega.{arith}
use mathlib.Core.Path.{◌≡◌, refl, sym, ap, ◌∙◌}
use mathlib.Core.Bool.{Bool, cond}
use mathlib.Core.Logic.{⊎_elim}
use mathlib.Core.List.Memᴰ
use mathlib.Core.List.{List, [], ◌∷◌, ◌++◌}
use lib.ListN.{length}
use borrow.Author.Tests.{lt-ltb, le-ltb}
use Rattle.nearest.specs.Sorted.{◌among◌, distances, farthest}
use Rattle.nearest.specs.Insert.{insert}
use Rattle.nearest.proofs.Lists.{middle_self, middle_among, length_middle, last_split}
use Rattle.nearest.proofs.Sorted.{sorted_farthest, farthest_last}
use Rattle.nearest.proofs.Remove.{sorted_without}
use Rattle.nearest.proofs.Insert.{insert_sorted, insert_only, insert_length}
use Rattle.runs.specs.Setting.{Setting, Laws}
use Rattle.runs.specs.Views.{View, fresh, holding, Good, radius, Held}

module _ {S : Setting} (L : Laws S) where
  open S use {Key, Owner, ValidOwner, ValidKey, dist, cap, limit}

  -- a fresh index keeps the rules
  pub good_fresh : (o : Owner) → ValidOwner o → Good S (fresh S o)
  good_fresh o valid = record {
    valid_owner = valid;
    valid_keys = λ k m. absurd (Memᴰ.not-nil m);
    most = omega arith;
    sorted = tt;
    within = λ k m. absurd (Memᴰ.not-nil m);
  }

  module _ (v : View S) where
    -- with room, the radius is the cap
    pub radius_room : length v.keys < limit v.owner → radius S v ≡ cap v.owner
    radius_room h =
        ap (λ (t : Bool). cond t (cap v.owner) (farthest (dist v.owner) (cap v.owner) v.keys)) (lt-ltb _ _ h)

    -- without, it is the distance of the last key
    pub radius_full : (front : List Key) (far : Key) → limit v.owner ≤ length v.keys → v.keys ≡ front ++ far ∷ []
        → radius S v ≡ dist v.owner far
    radius_full front far h e =
        ap (λ (t : Bool). cond t (cap v.owner) (farthest (dist v.owner) (cap v.owner) v.keys)) (le-ltb _ _ h)
        ∙ ap (λ (l : List Key). farthest (dist v.owner) (cap v.owner) l) e
        ∙ farthest_last (dist v.owner) (cap v.owner) front far

    -- a list that is not below the limit has a last key
    pub full_split : limit v.owner ≤ length v.keys → (front : List Key) × (far : Key) × (v.keys ≡ front ++ far ∷ [])
    full_split h = last_split v.keys (omega (arith, L.limit_positive v.owner))

    -- which is held
    pub last_among : (front : List Key) (far : Key) → v.keys ≡ front ++ far ∷ [] → far among v.keys
    last_among front far e = rw e (middle_self front far [])

    module _ (good : Good S v) where
      -- the radius is at most the cap
      pub radius_cap : radius S v ≤ cap v.owner
      radius_cap = by (dec_lt (length v.keys) (limit v.owner))
        where
          by : Dec (length v.keys < limit v.owner) → radius S v ≤ cap v.owner
          by (yes h) = omega (arith, radius_room h)
          by (no h) =
              let t = full_split (omega arith) in
              omega (arith, radius_full t.0 t.1 (omega arith) t.2, good.within t.1 (last_among t.0 t.1 t.2))

      -- each key held is within the radius
      pub within_radius : (k : Key) → k among v.keys → dist v.owner k ≤ radius S v
      within_radius k m = by (dec_lt (length v.keys) (limit v.owner))
        where
          by : Dec (length v.keys < limit v.owner) → dist v.owner k ≤ radius S v
          by (yes h) = omega (arith, radius_room h, good.within k m)
          by (no h) =
              rw (le-ltb (length v.keys) (limit v.owner) (omega arith))
              (sorted_farthest (dist v.owner) 0 (cap v.owner) v.keys good.sorted m)

      -- a key that is held, or counts as one that is, is at the distance of one that is
      pub held_distance : (k : Key) → ValidKey v.owner k → Held S v k → dist v.owner k among distances (dist v.owner) v.keys
      held_distance k valid h =
          Memᴰ.cast (sym ((L.same_distance v.owner h.0 k good.valid_owner (good.valid_keys h.0 h.1) valid).0 h.2))
          (Memᴰ.map (dist v.owner) h.1)

      -- and any other key is at a new distance
      pub new_distance : (k : Key) → ValidKey v.owner k → ¬ Held S v k → ¬ (dist v.owner k among distances (dist v.owner) v.keys)
      new_distance k valid new m =
          let t = Memᴰ.of_map (dist v.owner) v.keys m in
          new (t.0, t.1, (L.same_distance v.owner t.0 k good.valid_owner (good.valid_keys t.0 t.1) valid).1 t.2)

      -- a key that is held counts as itself
      pub among_held : (k : Key) → k among v.keys → Held S v k
      among_held k m = (k, m, (L.same_distance v.owner k k good.valid_owner (good.valid_keys k m) (good.valid_keys k m)).1 refl)

      -- without one of its keys, the view still keeps the rules
      pub good_without : (front : List Key) (k : Key) (back : List Key) → v.keys ≡ front ++ k ∷ back → Good S (holding S v (front ++ back))
      good_without front k back e = record {
        valid_owner = good.valid_owner;
        valid_keys = λ j m. good.valid_keys j (was j m);
        most = omega (arith, good.most, length_middle front k back, ap length e);
        sorted = sorted_without (dist v.owner) 0 front k back (rw e at good.sorted);
        within = λ j m. good.within j (was j m);
      }
        where
          was : (j : Key) → j among (front ++ back) → j among v.keys
          was j m = rw e (middle_among front k back m)

      -- with a new key within the cap and room for it, too
      pub good_insert : (k : Key) → ValidKey v.owner k → dist v.owner k ≤ cap v.owner → length v.keys < limit v.owner
          → ¬ (dist v.owner k among distances (dist v.owner) v.keys) → Good S (holding S v (insert (dist v.owner) k v.keys))
      good_insert k valid h room new = record {
        valid_owner = good.valid_owner;
        valid_keys = λ j m. ⊎_elim (λ e. rw e valid) (good.valid_keys j) (insert_only (dist v.owner) k v.keys m);
        most = omega (arith, insert_length (dist v.owner) k v.keys new);
        sorted = insert_sorted (dist v.owner) k 0 v.keys (omega arith) good.sorted;
        within = λ j m. ⊎_elim (λ e. rw e h) (good.within j) (insert_only (dist v.owner) k v.keys m);
      }
