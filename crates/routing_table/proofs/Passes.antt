-- What passes over a list find, in std's words: the first place, the last one, how often a number stands there. Over any element and
-- any test. Assumes nothing.
use Prim.Native.Nat.{ℕ, zero, suc, ◌<◌}
use native.Mathlib.Omega.{arith}
use mathlib.Core.Path.{◌≡◌, refl, sym, ap, fun_ext}
use mathlib.Core.Bool.{Bool, true, false, not, cond, ◌&&◌, ◌||◌}
use mathlib.Core.List.{List, [], ◌∷◌}
use lib.Dec.{eqb}
use lib.ListN.{length, get_or}
use lib.Pointwise.{pointwise}
use Rattle.std.specs.Prelude.{Option, Some, None, nat_eq, count_by}
use Rattle.std.proofs.lemmas.List.Recursion.{is_count_by, or_from_places}
use Rattle.octets.specs.Equal.{holds, same_bytes}
use Rattle.octets.proofs.Equal.{same_pointwise}
use Rattle.routing_table.specs.Places.{first_place, last_place, first_of, last_of, count_of}

module _ {A : Type 0} (same : A → A → Bool) (a : A) where
  -- where none is a, there is no last place
  none_holds : (l : List A) (d : A) → ((k : ℕ) → k < length l → same a (get_or l k d) ≡ false) → holds same a l ≡ false
  unfolding holds
  none_holds l d f = or_from_places (holds same a) (same a) refl (λ x xs. refl) l d f

  pub first_none_is : (l : List A) (d : A) → ((k : ℕ) → k < length l → same a (get_or l k d) ≡ false) → None ≡ first_of same a l
  first_none_is l d f = rw (none_holds l d f)

  -- a place that has a, with none before it, is the first
  first_found : (l : List A) (d : A) (i : ℕ) → i < length l → same a (get_or l i d) ≡ true
      → ((k : ℕ) → k < i → same a (get_or l k d) ≡ false) → (holds same a l ≡ true) × (first_place same a l ≡ i)
  unfolding holds first_place
  first_found [] d i h e f = absurd (omega arith)
  first_found (b ∷ l) d zero h e f = (rw e, rw e)
  first_found (b ∷ l) d (suc i) h e f =
      let r = first_found l d i (omega arith) e (λ k m. f (suc k) (omega arith)) in
      let other : same a b ≡ false = f zero (omega arith) in
      (rw other r.0, rw other (ap suc r.1))

  pub first_is : (l : List A) (d : A) (i : ℕ) → i < length l → same a (get_or l i d) ≡ true
      → ((k : ℕ) → k < i → same a (get_or l k d) ≡ false) → Some i ≡ first_of same a l
  first_is l d i h e f =
      let r = first_found l d i h e f in
      rw (r.0, r.1)

  pub last_none_is : (l : List A) (d : A) → ((k : ℕ) → k < length l → same a (get_or l k d) ≡ false) → None ≡ last_of same a l
  last_none_is l d f = rw (none_holds l d f)

  -- a place that has a, with none behind it, is the last
  found : (l : List A) (d : A) (i : ℕ) → i < length l → same a (get_or l i d) ≡ true
      → ((k : ℕ) → i < k → k < length l → same a (get_or l k d) ≡ false) → (holds same a l ≡ true) × (last_place same a l ≡ i)
  unfolding holds last_place
  found [] d i h e f = absurd (omega arith)
  found (b ∷ l) d zero h e f =
      let none : holds same a l ≡ false = none_holds l d (λ k m. f (suc k) (omega arith) (omega arith)) in
      (rw e, rw (e, none))
  found (b ∷ l) d (suc i) h e f =
      let r = found l d i (omega arith) e (λ k m n. f (suc k) (omega arith) (omega arith)) in
      go (same a b) r.0 r.1
    where
      go : (t : Bool) → holds same a l ≡ true → last_place same a l ≡ i
          → ((t || holds same a l) ≡ true) × (cond (t && not (holds same a l)) 0 (suc (last_place same a l)) ≡ suc i)
      go true p q = (refl, rw p (ap suc q))
      go false p q = (p, ap suc q)

  pub last_is : (l : List A) (d : A) (i : ℕ) → i < length l → same a (get_or l i d) ≡ true
      → ((k : ℕ) → i < k → k < length l → same a (get_or l k d) ≡ false) → Some i ≡ last_of same a l
  last_is l d i h e f =
      let r = found l d i h e f in
      rw (r.0, r.1)

-- what `position` and `rposition` say of each place
module _ {A : Type 0} (same : A → A → Bool) (a : A) (l : List A) (d : A) where
  abbrev pub FirstAt : Option ℕ → Type 0
  FirstAt None = (k : ℕ) → k < length l → same a (get_or l k d) ≡ false
  FirstAt (Some i) = (i < length l) × (same a (get_or l i d) ≡ true) × ((k : ℕ) → k < i → same a (get_or l k d) ≡ false)

  pub first_from : (r : Option ℕ) → FirstAt r → r ≡ first_of same a l
  first_from None f = first_none_is same a l d f
  first_from (Some i) f = first_is same a l d i f.0 f.1 f.2

  abbrev pub LastAt : Option ℕ → Type 0
  LastAt None = (k : ℕ) → k < length l → same a (get_or l k d) ≡ false
  LastAt (Some i) = (i < length l) × (same a (get_or l i d) ≡ true) × ((k : ℕ) → i < k → k < length l → same a (get_or l k d) ≡ false)

  pub last_from : (r : Option ℕ) → LastAt r → r ≡ last_of same a l
  last_from None f = last_none_is same a l d f
  last_from (Some i) f = last_is same a l d i f.0 f.1 f.2

-- two tests that answer alike find the same
pub first_bytes : (a : List ℕ) (l : List (List ℕ)) → first_of (pointwise nat_eq) a l ≡ first_of same_bytes a l
first_bytes a l = ap (λ (same : List ℕ → List ℕ → Bool). first_of same a l) (fun_ext (λ x. fun_ext (λ y. same_pointwise x y)))

-- how often a number stands there is how often the test for it passes
pub count_is : (d : ℕ) (l : List ℕ) → count_by (λ (x : ℕ). eqb d x) l ≡ count_of d l
unfolding count_of
count_is d l = sym (is_count_by (count_of d) (eqb d) refl (λ x xs. ap (λ (n : ℕ). cond (eqb d x) n (count_of d xs)) (omega arith)) l)
