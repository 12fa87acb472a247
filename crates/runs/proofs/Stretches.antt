-- A stretch, whatever its calls, comes to keys offered one after another: those presented in it with acceptable content and within the cap.
-- Assumes nothing.
use Prim.Native.Nat.{ℕ, ◌≤◌, ◌<◌}
use native.Mathlib.Decide.{dec_le, dec_lt}
use native.Mathlib.Omega.{arith}
use mathlib.Core.Path.{◌≡◌, refl, sym, ap, subst, ◌∙◌}
use mathlib.Core.Logic.{◌↔◌, inl, inr, ⊎_elim}
use mathlib.Core.List.Memᴰ
use mathlib.Core.List.Memᴰ.{head as here}
use mathlib.Core.List.{List, [], ◌∷◌, ◌++◌}
use mathlib.Core.Option.{some}
use lib.ListN.{length}
use Rattle.refusal.specs.Says.{Said}
use Rattle.refusal.specs.Outcome.{given}
use Rattle.nearest.specs.Sorted.{◌among◌}
use Rattle.nearest.specs.Insert.{insert, offer, offer_all}
use Rattle.nearest.proofs.Offer.{offer_held, offer_room, offer_far}
use Rattle.runs.specs.Setting.{Setting, Laws}
use Rattle.runs.specs.Views.{View, Call, store, remove, reload, Answer, Good, radius}
use Rattle.runs.specs.Done.{Admitted, Refused, broken, no_key, unfit, held, alike, beyond, Done, refusing, storing, evicting, removing, reloading}
use Rattle.runs.specs.Runs.{Stretch, Presented}
use Rattle.runs.proofs.Views.{radius_room, radius_full, full_split, held_distance}
use Rattle.runs.proofs.Steps.{same_key, key_or_none, taken_cap, taken_new, taken_offer}

module _ {S : Setting} (L : Laws S) where
  open S use {Key, Owner, Raw, Content, dist, cap, limit, key_in, fault}

  -- the calls come to these keys offered, from the one list of keys to the other
  pub record Folded (o : Owner) (cs : List (Call S)) (start end : List Key) : Type 0 where
    pub offers : List Key
    pub which : (k : Key) → Presented S o cs k ↔ (k among offers)
    pub folds : end ≡ offer_all (dist o) (limit o) offers start

  -- content with a fault is not acceptable
  fault_or_none : {o : Owner} {raw : Raw} {content : Content} {j k : Key} {r : Said} → Admitted S o raw content k → key_in o raw ≡ given j
      → fault o j content ≡ some r → ⊥
  fault_or_none ad e f = let z : ◌≡◌ {A = ℕ} 0 1 = cc in omega arith

  -- nothing is offered, and nothing changes
  pub folded_none : (o : Owner) (cs : List (Call S)) (l : List Key) → ((k : Key) → ¬ Presented S o cs k) → Folded o cs l l
  folded_none o cs l nothing = record {
    offers = [];
    which = λ k. (λ f. absurd (nothing k f), λ m. absurd (Memᴰ.not-nil m));
    folds = refl;
  }

  -- a store call that offers one key
  folded_one : (o : Owner) (raw : Raw) (content : Content) (k : Key) (start end : List Key) → Admitted S o raw content k → dist o k ≤ cap o
      → end ≡ offer (dist o) (limit o) k start → Folded o (store raw content ∷ []) start end
  folded_one o raw content k start end ad h e = record {
    offers = k ∷ [];
    which = λ j. (
      ⊎_elim (λ f. here (same_key L f.0.presented ad.presented)) absurd,
      λ m. subst (λ (i : Key). Presented S o (store raw content ∷ []) i) (sym (Memᴰ.eq_of_singleton m)) (inl (ad, h)),
    );
    folds = e;
  }

  offers_append : (o : Owner) (xs ys l : List Key)
      → offer_all (dist o) (limit o) (xs ++ ys) l ≡ offer_all (dist o) (limit o) ys (offer_all (dist o) (limit o) xs l)
  offers_append o [] ys l = refl
  offers_append o (x ∷ xs) ys l = offers_append o xs ys (offer (dist o) (limit o) x l)

  -- a call, and then others
  pub folded_next : (o : Owner) (c : Call S) (cs : List (Call S)) (start middle end : List Key)
      → Folded o (c ∷ []) start middle → Folded o cs middle end → Folded o (c ∷ cs) start end
  folded_next o c cs start middle end one rest = record {
    offers = one.offers ++ rest.offers;
    which = λ k. (
      ⊎_elim (λ f. Memᴰ.append_left rest.offers ((one.which k).0 (inl f))) (λ f. Memᴰ.append_right one.offers ((rest.which k).0 f)),
      λ m. ⊎_elim (λ i. ⊎_elim inl absurd ((one.which k).1 i)) (λ i. inr ((rest.which k).1 i)) (Memᴰ.append_cases one.offers m),
    );
    folds = rest.folds ∙ ap (λ (l : List Key). offer_all (dist o) (limit o) rest.offers l) one.folds
        ∙ sym (offers_append o one.offers rest.offers start);
  }

  -- beyond the radius and within the cap, the list is full and the key is farther than the last: an offer changes nothing
  beyond_unchanged : (v : View S) (k : Key) → Good S v → radius S v < dist v.owner k → dist v.owner k ≤ cap v.owner
      → v.keys ≡ offer (dist v.owner) (limit v.owner) k v.keys
  beyond_unchanged v k good h g = by (dec_lt (length v.keys) (limit v.owner))
    where
      full : (front : List Key) (far : Key) → limit v.owner ≤ length v.keys → v.keys ≡ front ++ far ∷ []
          → v.keys ≡ offer (dist v.owner) (limit v.owner) k v.keys
      full front far u e =
          sym (offer_far (dist v.owner) k (limit v.owner) v.keys front far good.sorted (omega (arith, good.most)) e
          (omega (arith, radius_full L v front far u e)))

      by : Dec (length v.keys < limit v.owner) → v.keys ≡ offer (dist v.owner) (limit v.owner) k v.keys
      by (yes room) = absurd (omega (arith, radius_room L v room))
      by (no u) = let t = full_split L v (omega arith) in full t.0 t.1 (omega arith) t.2

  -- a refused store call changes nothing, and what it offers would not have
  folded_refused : {v : View S} {raw : Raw} {content : Content} {r : Said} → Good S v → Refused S v (store raw content) r
      → Folded v.owner (store raw content ∷ []) v.keys v.keys
  folded_refused good (broken bad) = absurd (bad good)
  folded_refused {v} good (no_key e) = folded_none v.owner _ v.keys (λ k. ⊎_elim (λ f. key_or_none L f.0.presented e) absurd)
  folded_refused {v} good (unfit e f) =
      folded_none v.owner _ v.keys (λ k. ⊎_elim (λ u. fault_or_none u.0 e f) absurd)
  folded_refused {v} {raw} {content} good (held {k = k} ad m) =
      folded_one v.owner raw content k v.keys v.keys ad (good.within k m)
      (sym (offer_held (dist v.owner) k (limit v.owner) v.keys good.sorted good.most (Memᴰ.map (dist v.owner) m)))
  folded_refused {v} {raw} {content} good (alike {k = k} ad out h) =
      let m = held_distance L v good k (L.key_in_valid v.owner raw k ad.presented) h in
      let t = Memᴰ.of_map (dist v.owner) v.keys m in
      folded_one v.owner raw content k v.keys v.keys ad (omega (arith, t.2, good.within t.0 t.1))
      (sym (offer_held (dist v.owner) k (limit v.owner) v.keys good.sorted good.most m))
  folded_refused {v} {raw} {content} good (beyond {k = k} ad new h) = by (dec_le (dist v.owner k) (cap v.owner))
    where
      by : Dec (dist v.owner k ≤ cap v.owner) → Folded v.owner (store raw content ∷ []) v.keys v.keys
      by (yes g) = folded_one v.owner raw content k v.keys v.keys ad g (beyond_unchanged v k good h g)
      by (no g) =
          folded_none v.owner (store raw content ∷ []) v.keys
          (λ j. ⊎_elim (λ f. g (rw (same_key L f.0.presented ad.presented) at f.1)) absurd)

  -- one call of a stretch
  pub folded_step : {v w : View S} {c : Call S} {a : Answer S} (told : List (Answer S)) → Good S v → Done S v c w a → Stretch S (a ∷ told)
      → Folded v.owner (c ∷ []) v.keys w.keys
  folded_step {v} {c = store raw content} told good (refusing why) s = folded_refused good why
  folded_step {v} {c = remove raw} told good (refusing why) s = folded_none v.owner (remove raw ∷ []) v.keys (λ k. ⊎_elim absurd absurd)
  folded_step {v} {c = reload t} told good (refusing why) s = folded_none v.owner (reload t ∷ []) v.keys (λ k. ⊎_elim absurd absurd)
  folded_step {v} told good (storing {raw = raw} {content = content} {k = k} taken room) s =
      folded_one v.owner raw content k v.keys (insert (dist v.owner) k v.keys) taken.admitted (taken_cap L good taken)
      (sym (offer_room (dist v.owner) k (limit v.owner) v.keys room (taken_new L good taken)))
  folded_step {v} told good (evicting {raw = raw} {content = content} {k = k} front far taken full e) s =
      folded_one v.owner raw content k v.keys (insert (dist v.owner) k front) taken.admitted (taken_cap L good taken)
      (sym (taken_offer L good taken front far full e))
  folded_step told good (removing front back p e) s = absurd s
  folded_step told good (reloading gives) s = absurd s
