-- What holds of one call, by its outcome. Assumes nothing.
use Prim.Native.Nat.{ℕ, suc, ◌+◌, ◌≤◌, ◌<◌}
use native.Mathlib.Nat.{lt_irrefl}
use native.Mathlib.Omega.{arith}
use mathlib.Core.Path.{◌≡◌, refl, sym, ap, subst, ◌∙◌}
use mathlib.Core.Logic.{◌↔◌, ⊎_elim}
use mathlib.Core.List.Memᴰ
use mathlib.Core.List.{List, [], ◌∷◌, ◌++◌, append-nil}
use lib.Dec.{lit<}
use lib.ListN.{length}
use Rattle.refusal.specs.Says.{Said, number_in}
use Rattle.refusal.specs.Outcome.{given, refusal}
use Rattle.nearest.specs.Sorted.{◌among◌, distances}
use Rattle.nearest.specs.Insert.{insert, offer}
use Rattle.nearest.proofs.Order.{Order, less, same, more, order}
use Rattle.nearest.proofs.Lists.{middle_self, length_middle}
use Rattle.nearest.proofs.Sorted.{sorted_last, distances_front}
use Rattle.nearest.proofs.Insert.{insert_only, insert_stays, insert_enters, insert_length}
use Rattle.nearest.proofs.Offer.{offer_near}
use Rattle.runs.specs.Setting.{Setting, Laws}
use Rattle.runs.specs.Views.{View, Call, store, remove, reload, Answer, refused, evicted, holding, Good, radius, Held, Gives}
use Rattle.runs.specs.Done.{Admitted, Refused, broken, no_key, unfit, held, alike, beyond, no_key_out, absent, bad_text, Taken, Done, refusing, storing, evicting, removing, reloading}
use Rattle.runs.specs.Runs.{Accepted, NoReload, stores, evictions, removals}
use Rattle.runs.proofs.Views.{radius_full, radius_cap, last_among, new_distance, among_held, good_without, good_insert}

module _ {S : Setting} (L : Laws S) where
  open S use {Key, Owner, Raw, Content, Text, ValidKey, dist, cap, limit, key_in}

  -- the bytes of a call are one key
  pub same_key : {o : Owner} {raw : Raw} {j k : Key} → key_in o raw ≡ given j → key_in o raw ≡ given k → j ≡ k
  same_key p q = cc

  -- or none
  pub key_or_none : {o : Owner} {raw : Raw} {k : Key} {r : Said} → key_in o raw ≡ given k → key_in o raw ≡ refusal r → ⊥
  key_or_none p q = let z : ◌≡◌ {A = ℕ} 0 1 = cc in omega arith

  -- no refusal of a view that keeps the rules has number 0
  pub refused_number : {v : View S} {c : Call S} {r : Said} → Good S v → Refused S v c r → 0 < number_in r
  refused_number good (broken bad) = absurd (bad good)
  refused_number {v} good (no_key {raw = raw} {r = r} e) = L.key_in_number v.owner raw r e
  refused_number {v} good (unfit {content = content} {k = k} {r = r} e f) = L.fault_number v.owner k content r f
  refused_number good (held ad m) = lit< tt
  refused_number good (alike ad out h) = lit< tt
  refused_number good (beyond ad new h) = lit< tt
  refused_number {v} good (no_key_out {raw = raw} {r = r} e) = L.key_in_number v.owner raw r e
  refused_number good (absent e out) = lit< tt
  refused_number good (bad_text {t = t} {r = r} e) = L.text_in_number t r e

  -- a key that a store call takes: valid, within the cap and at a new distance
  module _ {v : View S} {raw : Raw} {content : Content} {k : Key} (good : Good S v) (taken : Taken S v raw content k) where
    pub taken_valid : ValidKey v.owner k
    taken_valid = L.key_in_valid v.owner raw k taken.admitted.presented

    pub taken_cap : dist v.owner k ≤ cap v.owner
    taken_cap = omega (arith, taken.near, radius_cap L v good)

    pub taken_new : ¬ (dist v.owner k among distances (dist v.owner) v.keys)
    taken_new = new_distance L v good k taken_valid taken.new

    -- also to the keys before the last
    pub taken_front : (front : List Key) (far : Key) → v.keys ≡ front ++ far ∷ []
        → ¬ (dist v.owner k among distances (dist v.owner) front)
    taken_front front far e m = taken_new (rw e (distances_front (dist v.owner) front (far ∷ []) m))

    -- where there is no room, the key is nearer than the last, and cutting at the limit leaves it among the others
    pub taken_offer : (front : List Key) (far : Key) → length v.keys ≡ limit v.owner → v.keys ≡ front ++ far ∷ []
        → offer (dist v.owner) (limit v.owner) k v.keys ≡ insert (dist v.owner) k front
    taken_offer front far full e =
        offer_near (dist v.owner) k (limit v.owner) v.keys front far good.sorted full e taken_new
        (by (order (dist v.owner k) (dist v.owner far)))
      where
        by : Order (dist v.owner k) (dist v.owner far) → dist v.owner k < dist v.owner far
        by (less h) = h
        by (same p) = absurd (taken_new (Memᴰ.cast p (Memᴰ.map (dist v.owner) (last_among L v front far e))))
        by (more h) = absurd (omega (arith, taken.near, radius_full L v front far (omega arith) e))

    -- so a step that makes room by cutting at the limit does the same
    pub evicting_offer : (front : List Key) (far : Key) → length v.keys ≡ limit v.owner → v.keys ≡ front ++ far ∷ []
        → Done S v (store raw content) (holding S v (offer (dist v.owner) (limit v.owner) k v.keys)) (evicted far)
    evicting_offer front far full e =
        subst (λ (l : List Key). Done S v (store raw content) (holding S v l) (evicted far)) (sym (taken_offer front far full e))
        (evicting front far taken full e)

  -- the last key counts for one
  front_length : {l : List Key} (front : List Key) (far : Key) → l ≡ front ++ far ∷ [] → length l ≡ suc (length front)
  front_length front far e = ap length e ∙ length_middle front far [] ∙ ap (λ (r : List Key). suc (length r)) (append-nil front)

  -- every call leaves a view that keeps the rules
  pub good_step : {v w : View S} {c : Call S} {a : Answer S} → Good S v → Done S v c w a → Good S w
  good_step good (refusing why) = good
  good_step {v} good (storing {k = k} taken room) =
      good_insert L v good k (taken_valid good taken) (taken_cap good taken) room (taken_new good taken)
  good_step {v} good (evicting {k = k} front far taken full e) =
      let rest = subst (λ (l : List Key). Good S (holding S v l)) (append-nil front) (good_without L v good front far [] e) in
      good_insert L (holding S v front) rest k (taken_valid good taken) (taken_cap good taken) (omega (arith, front_length front far e))
      (taken_front good taken front far e)
  good_step {v} good (removing {k = k} front back p e) = good_without L v good front k back e
  good_step good (reloading gives) = gives.1

  -- no accepted reload: the owner stays
  pub owner_step : {v w : View S} {c : Call S} {a : Answer S} (told : List (Answer S)) → Done S v c w a → NoReload S (a ∷ told)
      → w.owner ≡ v.owner
  owner_step told (refusing why) n = refl
  owner_step told (storing taken room) n = refl
  owner_step told (evicting front far taken full e) n = refl
  owner_step told (removing front back p e) n = refl
  owner_step told (reloading gives) n = absurd n

  -- the count over one call
  pub counts_step : {v w : View S} {c : Call S} {a : Answer S} (told : List (Answer S)) → Good S v → Done S v c w a → NoReload S (a ∷ told)
      → length v.keys + stores S a ≡ length w.keys + evictions S a + removals S a
  counts_step told good (refusing why) n = omega arith
  counts_step {v} told good (storing {k = k} taken room) n = omega (arith, insert_length (dist v.owner) k v.keys (taken_new good taken))
  counts_step {v} told good (evicting {k = k} front far taken full e) n =
      omega (arith, front_length front far e, insert_length (dist v.owner) k front (taken_front good taken front far e))
  counts_step told good (removing {k = k} front back p e) n = omega (arith, ap length e, length_middle front k back)
  counts_step told good (reloading gives) n = absurd n

  -- a call on a view that keeps the rules is not refused with 0
  pub number_step : {v w : View S} {c : Call S} {r : Said} → Good S v → Done S v c w (refused r) → ¬ (number_in r ≡ 0)
  number_step good (refusing why) e = omega (arith, refused_number good why)

  -- a store call that presents a key not held, with acceptable content, is refused only beyond the radius
  refused_beyond : {v : View S} {raw : Raw} {content : Content} {r : Said} {k : Key} → Good S v → Refused S v (store raw content) r
      → Admitted S v.owner raw content k → ¬ Held S v k → radius S v < dist v.owner k
  refused_beyond good (broken bad) ad new = absurd (bad good)
  refused_beyond good (no_key e) ad new = absurd (key_or_none ad.presented e)
  refused_beyond good (unfit e f) ad new = let z : ◌≡◌ {A = ℕ} 0 1 = cc in absurd (omega arith)
  refused_beyond {v} {k} good (held {k = j} by m) ad new =
      absurd (new (among_held L v good k (Memᴰ.cast (same_key ad.presented by.presented) m)))
  refused_beyond {v} good (alike by out h) ad new =
      absurd (new (subst (λ (i : Key). Held S v i) (same_key by.presented ad.presented) h))
  refused_beyond {v} good (beyond by still h) ad new =
      subst (λ (i : Key). radius S v < dist v.owner i) (same_key by.presented ad.presented) h

  -- a key not held, with acceptable content, is stored exactly when it is within the radius
  pub accepts_step : {v w : View S} {raw : Raw} {content : Content} {a : Answer S} {k : Key} → Good S v → Done S v (store raw content) w a
      → Admitted S v.owner raw content k → ¬ Held S v k → (Accepted S a × (k among w.keys)) ↔ (dist v.owner k ≤ radius S v)
  accepts_step good (refusing why) ad new = (λ p. absurd p.0, λ h. absurd (omega (arith, refused_beyond good why ad new)))
  accepts_step {v} {k} good (storing {k = j} taken room) ad new =
      let e : k ≡ j = same_key ad.presented taken.admitted.presented in
      (λ p. rw e taken.near, λ h. (tt, Memᴰ.cast e (insert_enters (dist v.owner) j v.keys (taken_new good taken))))
  accepts_step {v} {k} good (evicting {k = j} front far taken full p) ad new =
      let e : k ≡ j = same_key ad.presented taken.admitted.presented in
      (λ q. rw e taken.near, λ h. (tt, Memᴰ.cast e (insert_enters (dist v.owner) j front (taken_front good taken front far p))))

  -- a store names a key exactly when it left
  pub evicts_step : {v w : View S} {raw : Raw} {content : Content} {a : Answer S} → Good S v → Done S v (store raw content) w a
      → (j : Key) → (a ≡ evicted j) ↔ ((j among v.keys) × (¬ (j among w.keys)))
  evicts_step good (refusing why) j =
      (λ e. let z : ◌≡◌ {A = ℕ} 0 1 = cc in absurd (omega arith), λ p. absurd (p.1 p.0))
  evicts_step {v} good (storing {k = k} taken room) j =
      (λ e. let z : ◌≡◌ {A = ℕ} 0 1 = cc in absurd (omega arith), λ p. absurd (p.1 (insert_stays (dist v.owner) k v.keys p.0)))
  evicts_step {v} good (evicting {k = k} front far taken full e) j = (left, named)
    where
      far_left : ¬ (far among insert (dist v.owner) k front)
      far_left m =
          ⊎_elim (λ p. taken_new good taken (Memᴰ.map (dist v.owner) (Memᴰ.cast (sym p) (last_among L v front far e))))
          (λ i. lt_irrefl (dist v.owner far) (sorted_last (dist v.owner) 0 front far (rw e at good.sorted) i))
          (insert_only (dist v.owner) k front m)

      left : ◌≡◌ {A = Answer S} (evicted far) (evicted j) → (j among v.keys) × (¬ (j among insert (dist v.owner) k front))
      left p = let q : j ≡ far = cc in (Memᴰ.cast q (last_among L v front far e), λ m. far_left (Memᴰ.cast (sym q) m))

      named : (j among v.keys) × (¬ (j among insert (dist v.owner) k front)) → ◌≡◌ {A = Answer S} (evicted far) (evicted j)
      named p =
          ⊎_elim (λ i. absurd (p.1 (insert_stays (dist v.owner) k front i)))
          (λ i. ap {B = Answer S} evicted (sym (Memᴰ.eq_of_singleton i)))
          (Memᴰ.append_cases front (rw e at p.0))

  -- a removal is refused only where its key is not held
  refused_absent : {v : View S} {raw : Raw} {r : Said} {k : Key} → Good S v → Refused S v (remove raw) r → key_in v.owner raw ≡ given k
      → ¬ (k among v.keys)
  refused_absent good (broken bad) p m = bad good
  refused_absent good (no_key_out e) p m = key_or_none p e
  refused_absent good (absent e out) p m = out (Memᴰ.cast (same_key e p) m)

  -- a removal is accepted exactly when its key is held
  pub removes_step : {v w : View S} {raw : Raw} {a : Answer S} → Good S v → Done S v (remove raw) w a
      → Accepted S a ↔ ((k : Key) × (key_in v.owner raw ≡ given k) × (k among v.keys))
  removes_step good (refusing why) = (absurd, λ t. refused_absent good why t.1 t.2)
  removes_step good (removing {k = k} front back p e) = (λ u. (k, p, rw e (middle_self front k back)), λ t. tt)

  -- and takes out that key alone
  pub leaves_step : {v w : View S} {raw : Raw} {a : Answer S} {k : Key} → Done S v (remove raw) w a → Accepted S a
      → key_in v.owner raw ≡ given k
      → (front : List Key) × (back : List Key) × (v.keys ≡ front ++ k ∷ back) × (w ≡ holding S v (front ++ back))
  leaves_step (refusing why) accepted q = absurd accepted
  leaves_step {v} (removing front back p e) accepted q =
      (front, back, subst (λ (j : Key). v.keys ≡ front ++ j ∷ back) (same_key p q) e, refl)

  -- a reload is refused only where its text gives no view
  refused_text : {v : View S} {t : Text} {r : Said} → Good S v → Refused S v (reload t) r → (u : View S) → ¬ Gives S t u
  refused_text good (broken bad) u g = bad good
  refused_text good (bad_text e) u g = let h = g.0 in let z : ◌≡◌ {A = ℕ} 0 1 = cc in omega arith

  -- a text gives one view
  pub gives_one : {t : Text} {u w : View S} → Gives S t u → Gives S t w → w ≡ u
  gives_one g h = let p = g.0 in let q = h.0 in cc

  -- a reload is accepted exactly when its text gives a view, and leaves that view
  pub reloads_step : {v w : View S} {t : Text} {a : Answer S} → Good S v → Done S v (reload t) w a → (u : View S)
      → Gives S t u ↔ (Accepted S a × (w ≡ u))
  reloads_step good (refusing why) u = (λ g. absurd (refused_text good why u g), λ p. absurd p.0)
  reloads_step {t} good (reloading gives) u = (λ g. (tt, gives_one g gives), λ p. subst (λ (x : View S). Gives S t x) p.1 gives)

  -- a refused call leaves the view as it was
  pub refuses_step : {v w : View S} {c : Call S} {r : Said} → Done S v c w (refused r) → w ≡ v
  refuses_step (refusing why) = refl
