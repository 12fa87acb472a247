-- The n nearest of the keys that are at least b far, for proofs by recursion on the list. What holds at b = 0 is `Nearest`. Assumes nothing.
use Prim.Native.Nat.{ℕ, zero, suc, ◌≤◌, ◌<◌}
use native.Mathlib.Omega.{arith}
use native.Mathlib.Decide.{dec_lt}
use mathlib.Core.Path.{◌≡◌, refl, sym, ap, ap₂, subst, ◌∙◌}
use mathlib.Core.Logic.{◌⊎◌, inl, inr, ⊎_elim}
use mathlib.Core.List.Memᴰ
use mathlib.Core.List.Memᴰ.{head as here}
use mathlib.Core.List.Memᴰ.{tail as there}
use mathlib.Core.List.{List, [], ◌∷◌}
use lib.ListN.{length, take}
use lib.Seq.{take_all}
use Rattle.nearest.specs.Sorted.{◌among◌, SortedFrom, distances}
use Rattle.nearest.specs.Insert.{insert, offer}
use Rattle.nearest.proofs.Order.{Order, less, same, more, order, put_by, placed_by}
use Rattle.nearest.specs.Nearest.{Nearest, Within}
use Rattle.nearest.proofs.Lists.{among?}
use Rattle.nearest.proofs.Sorted.{sorted_least}

module _ {K : Type 0} (dist : K → ℕ) where
  -- every key of the list is nearer than d
  abbrev pub Below : ℕ → List K → Type 0
  Below d [] = Unit {0}
  Below d (k ∷ ks) = (dist k < d) × Below d ks

  below_each : {j : K} (d : ℕ) (l : List K) → Below d l → j among l → dist j < d
  below_each d [] h m = absurd (Memᴰ.not-nil m)
  below_each d (k ∷ ks) h (here e) = rw e h.0
  below_each d (k ∷ ks) h (there m) = below_each d ks h.1 m

  each_below : (d : ℕ) (l : List K) → ((j : K) → j among l → dist j < d) → Below d l
  each_below d [] h = tt
  each_below d (k ∷ ks) h = (h k (here refl), each_below d ks (λ j m. h j (there m)))

  -- of the keys P that are at least b far, each is in R by its distance, or R is full and each of R is nearer
  pub record Near (b n : ℕ) (P : K → Type 0) (R : List K) : Type 0 where
    pub sorted : SortedFrom dist b R
    pub chosen : (k : K) → k among R → P k
    pub most : length R ≤ n
    pub other : (k : K) → P k → b ≤ dist k → (dist k among distances dist R) ⊎ ((length R ≡ n) × Below (dist k) R)

  pub nearest_near : (n : ℕ) (P : K → Type 0) (R : List K) → Nearest dist n P R → Near 0 n P R
  nearest_near n P R near = record {
    sorted = near.sorted;
    chosen = near.chosen;
    most = near.most;
    other = λ k p h. by k p (among? (dist k) (distances dist R)) (dec_lt (length R) n);
  }
    where
      by : (k : K) → P k → Dec (dist k among distances dist R) → Dec (length R < n)
          → (dist k among distances dist R) ⊎ ((length R ≡ n) × Below (dist k) R)
      by k p (yes m) d = inl m
      by k p (no m) (yes h) = inl (near.all h k p)
      by k p (no m) (no h) = let most : length R ≤ n = near.most in inr (omega arith, each_below (dist k) R (near.others k p m))

  pub near_nearest : (n : ℕ) (P : K → Type 0) (R : List K) → Near 0 n P R → Nearest dist n P R
  near_nearest n P R near = record {
    sorted = near.sorted;
    chosen = near.chosen;
    most = near.most;
    all = λ h k p. ⊎_elim (λ m. m) (λ f. let e : length R ≡ n = f.0 in absurd (omega arith)) (near.other k p (omega arith));
    others = λ k p m j i. ⊎_elim (λ r. absurd (m r)) (λ f. below_each (dist k) R f.1 i) (near.other k p (omega arith));
  }

  -- none of the keys, where none is asked for
  near_none : (b : ℕ) (P : K → Type 0) → Near b 0 P []
  near_none b P = record {
    sorted = tt;
    chosen = λ k m. absurd (Memᴰ.not-nil m);
    most = omega arith;
    other = λ k p h. inr (refl, tt);
  }

  -- no key is nearer than the first
  near_least : (b n : ℕ) (P : K → Type 0) (r : K) (rs : List K) → Near b n P (r ∷ rs) → (k : K) → P k → b ≤ dist k → dist r ≤ dist k
  near_least b n P r rs near k p h =
      ⊎_elim (λ i. sorted_least dist (dist r) (r ∷ rs) (omega arith, near.sorted.1) i) (λ f. omega arith) (near.other k p h)

  module _ (b n : ℕ) (P : K → Type 0) (r : K) (rs : List K) where
    -- the others are the nearest beyond the first
    near_rest : Near b (suc n) P (r ∷ rs) → Near (suc (dist r)) n P rs
    near_rest near = record {
      sorted = near.sorted.1;
      chosen = λ k m. near.chosen k (there m);
      most = omega (arith, near.most);
      other = λ k p h. ⊎_elim
          (λ m. ⊎_elim (λ e. absurd (omega arith)) inl (Memᴰ.cases_cons m))
          (λ f. inr (omega (arith, f.0), f.1.1))
          (near.other k p (omega (arith, near.sorted.0)));
    }

    -- the nearest of all, and the nearest beyond it
    near_cons : P r → b ≤ dist r → ((k : K) → P k → b ≤ dist k → dist r ≤ dist k) → Near (suc (dist r)) n P rs → Near b (suc n) P (r ∷ rs)
    near_cons p h least near = record {
      sorted = (h, near.sorted);
      chosen = λ k m. ⊎_elim (λ e. rw e p) (λ i. near.chosen k i) (Memᴰ.cases_cons m);
      most = omega (arith, near.most);
      other = λ k q g. by k q (least k q g) (order (dist r) (dist k));
    }
      where
        by : (k : K) → P k → dist r ≤ dist k → Order (dist r) (dist k)
            → (dist k among distances dist (r ∷ rs)) ⊎ ((suc (length rs) ≡ suc n) × Below (dist k) (r ∷ rs))
        by k q g (less u) = ⊎_elim (λ m. inl (there m)) (λ f. inr (ap suc f.0, (u, f.1))) (near.other k q u)
        by k q g (same e) = inl (here (sym e))
        by k q g (more u) = absurd (omega arith)

  -- the m nearest are the first m of the n nearest
  near_take : (b m n : ℕ) (P : K → Type 0) (R : List K) → m ≤ n → Near b n P R → Near b m P (take m R)
  near_take b zero n P R h near = near_none b P
  near_take b (suc m) n P [] h near = record {
    sorted = tt;
    chosen = near.chosen;
    most = omega arith;
    other = λ k p g. ⊎_elim inl (λ f. let e : 0 ≡ n = f.0 in absurd (omega arith)) (near.other k p g);
  }
  near_take b (suc m) zero P (r ∷ rs) h near = absurd (omega arith)
  near_take b (suc m) (suc n) P (r ∷ rs) h near =
      near_cons b m P r (take m rs) (near.chosen r (here refl)) near.sorted.0 (near_least b (suc n) P r rs near)
      (near_take (suc (dist r)) m n P rs (omega arith) (near_rest b n P r rs near))

  -- other keys at the same distances have the same nearest, if these are among them
  near_same : (b n : ℕ) (P Q : K → Type 0) (R : List K) → ((k : K) → k among R → Q k)
      → ((k : K) → Q k → b ≤ dist k → (j : K) × P j × (dist j ≡ dist k)) → Near b n P R → Near b n Q R
  near_same b n P Q R from to near = record {
    sorted = near.sorted;
    chosen = from;
    most = near.most;
    other = λ k q h. by k (to k q h) h;
  }
    where
      by : (k : K) → (j : K) × P j × (dist j ≡ dist k) → b ≤ dist k → (dist k among distances dist R) ⊎ ((length R ≡ n) × Below (dist k) R)
      by k t h = subst (λ (d : ℕ). (d among distances dist R) ⊎ ((length R ≡ n) × Below d R)) t.2 (near.other t.0 t.1 (rw t.2 h))

  -- keys whose distances others have: where some are near, some of the others are
  near_empty : (b n : ℕ) (P Q : K → Type 0) (s : K) (ss : List K) → Within dist Q P → Near b n P [] → Near b n Q (s ∷ ss) → ⊥
  near_empty b n P Q s ss to near other =
      let t = to s (other.chosen s (here refl)) in
      ⊎_elim Memᴰ.not-nil (λ f. omega (arith, f.0, other.most)) (near.other t.0 t.1 (omega (arith, t.2, other.sorted.0)))

  -- and the first of the others is no farther
  near_first_le : (b n : ℕ) (P Q : K → Type 0) (r : K) (rs : List K) (s : K) (ss : List K)
      → Within dist Q P → Near b n P (r ∷ rs) → Near b n Q (s ∷ ss) → dist r ≤ dist s
  near_first_le b n P Q r rs s ss to near other =
      let t = to s (other.chosen s (here refl)) in
      omega (arith, t.2, near_least b n P r rs near t.0 t.1 (omega (arith, t.2, other.sorted.0)))

  -- the nearest of keys at the same distances are at the same distances
  pub near_distances : (b n : ℕ) (P Q : K → Type 0) (R S : List K) → Within dist P Q → Within dist Q P
      → Near b n P R → Near b n Q S → distances dist R ≡ distances dist S
  near_distances b n P Q [] [] to back near other = refl
  near_distances b n P Q [] (s ∷ ss) to back near other = absurd (near_empty b n P Q s ss back near other)
  near_distances b n P Q (r ∷ rs) [] to back near other = absurd (near_empty b n Q P r rs to other near)
  near_distances b zero P Q (r ∷ rs) (s ∷ ss) to back near other = absurd (omega (arith, near.most))
  near_distances b (suc n) P Q (r ∷ rs) (s ∷ ss) to back near other =
      let e : dist s ≡ dist r =
      omega (arith, near_first_le b (suc n) P Q r rs s ss back near other, near_first_le b (suc n) Q P s ss r rs to other near) in
      ap₂ (λ (d : ℕ) (l : List ℕ). d ∷ l) (sym e)
      (near_distances (suc (dist r)) n P Q rs ss to back (near_rest b n P r rs near)
      (subst (λ (d : ℕ). Near (suc d) n Q ss) e (near_rest b n Q s ss other)))

  -- a key offered
  module _ (P : K → Type 0) (k : K) where
    -- the keys and the one offered
    abbrev And : K → Type 0
    And j = P j ⊎ (j ≡ k)

    -- a key nearer than all goes first
    near_first : (b m : ℕ) (R : List K) → b ≤ dist k → SortedFrom dist (suc (dist k)) R
        → Near b (suc m) P R → Near b (suc m) And (k ∷ take m R)
    near_first b m R h s near =
        near_cons b m And k (take m R) (inr refl) h (λ j q g. ⊎_elim (λ p. by R s near j p g) (λ e. omega (arith, ap dist e)) q)
        (near_same (suc (dist k)) m P And (take m R) (λ j i. inl (cut.chosen j i))
        (λ j q g. ⊎_elim (λ p. (j, p, refl)) (λ e. absurd (omega (arith, ap dist e))) q) cut)
      where
        raised : Near (suc (dist k)) (suc m) P R
        raised = record { sorted = s; chosen = near.chosen; most = near.most; other = λ j p g. near.other j p (omega arith) }

        cut : Near (suc (dist k)) m P (take m R)
        cut = near_take (suc (dist k)) m (suc m) P R (omega arith) raised

        by : (R : List K) → SortedFrom dist (suc (dist k)) R → Near b (suc m) P R → (j : K) → P j → b ≤ dist j → dist k ≤ dist j
        by [] s near j p g =
            ⊎_elim (λ i. absurd (Memᴰ.not-nil i)) (λ f. let e : 0 ≡ suc m = f.0 in absurd (omega arith)) (near.other j p g)
        by (r ∷ rs) s near j p g = omega (arith, near_least b (suc m) P r rs near j p g)

    -- the n nearest and a key offered are the n nearest of the keys and the one offered
    pub near_offer : (b n : ℕ) (R : List K) → b ≤ dist k → Near b n P R → Near b n And (offer dist n k R)
    unfolding insert
    near_offer b zero R h near = near_none b And
    near_offer b (suc m) [] h near = near_first b m [] h tt near
    near_offer b (suc m) (r ∷ rs) h near = rw (placed_by (order (dist k) (dist r)) k r rs (insert dist k rs)) (by (order (dist k) (dist r)) (λ g. near_offer (suc (dist r)) m rs g (near_rest b m P r rs near)))
      where
        by : (o : Order (dist k) (dist r)) → (suc (dist r) ≤ dist k → Near (suc (dist r)) m And (offer dist m k rs))
            → Near b (suc m) And (take (suc m) (put_by o k r rs (insert dist k rs)))
        by (less g) rest = near_first b m (r ∷ rs) h (g, near.sorted.1) near
        by (same e) rest =
            rw (take_all (suc m) (r ∷ rs) near.most)
            (near_same b (suc m) P And (r ∷ rs) (λ j i. inl (near.chosen j i))
            (λ j q g. ⊎_elim (λ p. (j, p, refl)) (λ u. (r, near.chosen r (here refl), sym (ap dist u ∙ e))) q) near)
        by (more g) rest =
            near_cons b m And r (offer dist m k rs) (inl (near.chosen r (here refl))) near.sorted.0
            (λ j q u. ⊎_elim (λ p. near_least b (suc m) P r rs near j p u) (λ e. omega (arith, ap dist e)) q) (rest g)
