-- The n nearest of some keys: they are unique, and keys offered one after another end at them, in whatever order and however often.
-- Assumes nothing.
use Prim.Native.Nat.{ℕ, ◌≤◌, ◌<◌}
use native.Mathlib.Omega.{arith}
use mathlib.Core.Path.{◌≡◌, refl, sym, ap₂}
use mathlib.Core.Logic.{◌↔◌, ◌⊎◌, inl, inr, ⊎_elim}
use mathlib.Core.List.Memᴰ
use mathlib.Core.List.Memᴰ.{head as here}
use mathlib.Core.List.Memᴰ.{tail as there}
use mathlib.Core.List.{List, [], ◌∷◌}
use lib.ListN.{length}
use Rattle.nearest.specs.Sorted.{◌among◌, Sorted, distances}
use Rattle.nearest.specs.Insert.{offer, offer_all}
use Rattle.nearest.specs.Nearest.{Nearest, Within}
use Rattle.nearest.proofs.Near.{nearest_near, near_nearest, near_offer, near_distances}

module _ {K : Type 0} (dist : K → ℕ) where
  -- equal distances in the same places are equal keys in the same places, where an equal distance means an equal key
  pub distances_keys : (R S : List K) → ((j k : K) → j among R → k among S → dist j ≡ dist k → j ≡ k)
      → distances dist R ≡ distances dist S → R ≡ S
  distances_keys [] [] apart e = refl
  distances_keys [] (s ∷ ss) apart e = let z : ◌≡◌ {A = ℕ} 0 1 = cc in absurd (omega arith)
  distances_keys (r ∷ rs) [] apart e = let z : ◌≡◌ {A = ℕ} 0 1 = cc in absurd (omega arith)
  distances_keys (r ∷ rs) (s ∷ ss) apart e =
      ap₂ (λ (k : K) (l : List K). k ∷ l) (apart r s (here refl) (here refl) (cc))
      (distances_keys rs ss (λ j k m i. apart j k (there m) (there i)) (cc))

  -- a key whose distance is in the list is in the list
  distance_among : (k : K) (R : List K) → ((j : K) → j among R → dist j ≡ dist k → j ≡ k) → dist k among distances dist R → k among R
  distance_among k R apart m = let t = Memᴰ.of_map dist R m in Memᴰ.cast (sym (apart t.0 t.1 t.2)) t.1

  module _ (n : ℕ) where
    -- the n nearest are unique: keys at the same distances have their nearest at the same distances
    pub nearest_distances : (P Q : K → Type 0) (R S : List K) → Within dist P Q → Within dist Q P
        → Nearest dist n P R → Nearest dist n Q S → distances dist R ≡ distances dist S
    nearest_distances P Q R S to back near other =
        near_distances dist 0 n P Q R S to back (nearest_near dist n P R near) (nearest_near dist n Q S other)

    -- and where an equal distance means an equal key, they are the same keys in the same places
    pub nearest_keys : (P Q : K → Type 0) (R S : List K) → ((j k : K) → P j → Q k → dist j ≡ dist k → j ≡ k)
        → Within dist P Q → Within dist Q P → Nearest dist n P R → Nearest dist n Q S → R ≡ S
    nearest_keys P Q R S apart to back near other =
        distances_keys R S (λ j k m i. apart j k (near.chosen j m) (other.chosen k i)) (nearest_distances P Q R S to back near other)

    -- where an equal distance means an equal key, the n nearest are as document 01 has them:
    module _ (P : K → Type 0) (R : List K) (apart : (j k : K) → P j → P k → dist j ≡ dist k → j ≡ k) (near : Nearest dist n P R) where
      -- all of the keys where R has fewer than n,
      pub nearest_all : length R < n → (k : K) → P k → k among R
      nearest_all h k p = distance_among k R (λ j m e. apart j k (near.chosen j m) p e) (near.all h k p)

      -- and every key that is not in R farther than each of R
      pub nearest_others : (k : K) → P k → ¬ (k among R) → (j : K) → j among R → dist j < dist k
      nearest_others k p out = near.others k p (λ m. out (distance_among k R (λ j i e. apart j k (near.chosen j i) p e) m))

    -- the same keys, said in another way
    pub nearest_iff : (P Q : K → Type 0) (R : List K) → ((k : K) → P k ↔ Q k) → Nearest dist n P R → Nearest dist n Q R
    nearest_iff P Q R iff near = record {
      sorted = near.sorted;
      chosen = λ k m. (iff k).0 (near.chosen k m);
      most = near.most;
      all = λ h k q. near.all h k ((iff k).1 q);
      others = λ k q. near.others k ((iff k).1 q);
    }

    -- a sorted list of at most n keys is the n nearest of its keys
    pub nearest_self : (l : List K) → Sorted dist l → length l ≤ n → Nearest dist n (λ k. k among l) l
    nearest_self l s h = record {
      sorted = s;
      chosen = λ k m. m;
      most = h;
      all = λ g k m. Memᴰ.map dist m;
      others = λ k m new. absurd (new (Memᴰ.map dist m));
    }

    -- the n nearest and a key offered are the n nearest of the keys and that one
    pub nearest_offer : (P : K → Type 0) (k : K) (R : List K) → Nearest dist n P R → Nearest dist n (λ j. P j ⊎ (j ≡ k)) (offer dist n k R)
    nearest_offer P k R near =
        near_nearest dist n (λ j. P j ⊎ (j ≡ k)) (offer dist n k R) (near_offer dist P k 0 n R (omega arith) (nearest_near dist n P R near))

    -- and so with any list of keys offered one after another
    pub nearest_offers : (ks : List K) (P : K → Type 0) (R : List K) → Nearest dist n P R
        → Nearest dist n (λ j. P j ⊎ (j among ks)) (offer_all dist n ks R)
    nearest_offers [] P R near =
        nearest_iff P (λ j. P j ⊎ (j among [])) R (λ j. (inl, ⊎_elim (λ p. p) (λ m. absurd (Memᴰ.not-nil m)))) near
    nearest_offers (k ∷ ks) P R near =
        nearest_iff (λ j. (P j ⊎ (j ≡ k)) ⊎ (j among ks)) (λ j. P j ⊎ (j among (k ∷ ks))) (offer_all dist n ks (offer dist n k R))
        (λ j. (
          ⊎_elim (⊎_elim inl (λ e. inr (here e))) (λ m. inr (there m)),
          ⊎_elim (λ p. inl (inl p)) (λ m. ⊎_elim (λ e. inl (inr e)) inr (Memᴰ.cases_cons m)),
        ))
        (nearest_offers ks (λ j. P j ⊎ (j ≡ k)) (offer dist n k R) (nearest_offer P k R near))

    -- any keys offered to a sorted list of at most n end at the n nearest of the list's keys and the offers
    pub offers_nearest : (l ks : List K) → Sorted dist l → length l ≤ n
        → Nearest dist n (λ j. (j among l) ⊎ (j among ks)) (offer_all dist n ks l)
    offers_nearest l ks s h = nearest_offers ks (λ j. j among l) l (nearest_self l s h)

    -- so neither order nor repeats matter: starts and offers at the same distances end at the same distances
    pub offers_alike : (l ks m js : List K) → Sorted dist l → length l ≤ n → Sorted dist m → length m ≤ n
        → Within dist (λ j. (j among l) ⊎ (j among ks)) (λ j. (j among m) ⊎ (j among js))
        → Within dist (λ j. (j among m) ⊎ (j among js)) (λ j. (j among l) ⊎ (j among ks))
        → distances dist (offer_all dist n ks l) ≡ distances dist (offer_all dist n js m)
    offers_alike l ks m js s h t g to back =
        nearest_distances (λ j. (j among l) ⊎ (j among ks)) (λ j. (j among m) ⊎ (j among js)) (offer_all dist n ks l) (offer_all dist n js m)
        to back (offers_nearest l ks s h) (offers_nearest m js t g)
