-- A test of each element as a fact of each, and how often a number stands in a list. Assumes nothing.
use Prim.Native.Nat.{ℕ, zero, suc, ◌+◌, ◌≤◌, ◌<◌}
use native.Mathlib.Omega.{arith}
use mathlib.Core.Path.{◌≡◌, refl, sym, ap, ◌∙◌}
use mathlib.Core.Bool.{Bool, true, false, cond, not, ◌||◌, true≢false}
use mathlib.Core.Logic.{⊎_elim}
use mathlib.Core.List.Memᴰ
use mathlib.Core.List.Memᴰ.{head as here}
use mathlib.Core.List.Memᴰ.{tail as there}
use mathlib.Core.List.{List, [], ◌∷◌, ◌++◌}
use lib.Dec.{leb, eqb}
use borrow.Author.Tests.{eqb-true, eq-eqb, ne_eqb, leb-true, le-leb, not-true}
use Rattle.octets.specs.Equal.{same_bytes, holds, all_different}
use Rattle.octets.proofs.Equal.{holds_member, member_holds}
use Rattle.octets.proofs.Tests.{both, join}
use Rattle.std.specs.List.{list_all}
use Rattle.routing_table.specs.Places.{count_of}
use Rattle.routing_table.specs.Good.{none_over}
use Rattle.routing_table.specs.Rules.{◌among◌, Different}

module _ {A : Type 0} (test : A → Bool) where
  -- what passes for each passes for one
  pub every_one : {a : A} (l : List A) → list_all test l ≡ true → a among l → test a ≡ true
  every_one [] e m = absurd (Memᴰ.not-nil m)
  every_one {a} (b ∷ l) e m =
      let t = both (test b) (list_all test l) e in
      ⊎_elim (λ q. ap test q ∙ t.0) (every_one l t.1) (Memᴰ.cases_cons m)

  -- what passes for each one passes for all
  pub one_every : (l : List A) → ((a : A) → a among l → test a ≡ true) → list_all test l ≡ true
  one_every [] f = refl
  one_every (b ∷ l) f = join (test b) (list_all test l) (f b (here refl)) (one_every l (λ a m. f a (there m)))

-- a number stands nowhere in the empty list
pub count_none : (d : ℕ) → count_of d [] ≡ 0
unfolding count_of
count_none d = refl

-- how often it stands in a list whose first is this one, and whose first is another
pub count_same : (d e : ℕ) (l : List ℕ) → d ≡ e → count_of d (e ∷ l) ≡ suc (count_of d l)
unfolding count_of
count_same d e l q = rw (eq-eqb d e q)

pub count_other : (d e : ℕ) (l : List ℕ) → (d ≡ e → ⊥) → count_of d (e ∷ l) ≡ count_of d l
unfolding count_of
count_other d e l n = rw (ne_eqb d e n)

-- what a list does not hold stands nowhere in it
pub count_unheld : (d : ℕ) (l : List ℕ) → holds eqb d l ≡ false → count_of d l ≡ 0
unfolding count_of holds
count_unheld d [] e = refl
count_unheld d (m ∷ l) e = go (eqb d m) e (count_unheld d l)
  where
    go : (b : Bool) → (b || holds eqb d l) ≡ false → (holds eqb d l ≡ false → count_of d l ≡ 0) → cond b (suc (count_of d l)) (count_of d l) ≡ 0
    go true f rest = absurd (true≢false f)
    go false f rest = rest f

-- lists joined
pub count_append : (d : ℕ) (s t : List ℕ) → count_of d (s ++ t) ≡ count_of d s + count_of d t
unfolding count_of
count_append d [] t = omega arith
count_append d (e ∷ s) t = go (eqb d e) (count_append d s t)
  where
    go : (b : Bool) → count_of d (s ++ t) ≡ count_of d s + count_of d t
        → cond b (suc (count_of d (s ++ t))) (count_of d (s ++ t)) ≡ cond b (suc (count_of d s)) (count_of d s) + count_of d t
    go true q = omega arith
    go false q = q

-- a number that is counted is there
pub count_among : (d : ℕ) (l : List ℕ) → 0 < count_of d l → d among l
unfolding count_of
count_among d [] h = absurd (omega arith)
count_among d (e ∷ l) h = go (eqb d e) refl h (count_among d l)
  where
    go : (t : Bool) → eqb d e ≡ t → 0 < cond t (suc (count_of d l)) (count_of d l) → (0 < count_of d l → d among l) → d among (e ∷ l)
    go true q g below = here (eqb-true d e q)
    go false q g below = there (below g)

-- where none of a list is over n, no number is
pub none_over_lem : (n : ℕ) (l : List ℕ) → none_over n l ≡ true → (d : ℕ) → count_of d l ≤ n
none_over_lem n l e d = go (count_of d l) refl
  where
    go : (k : ℕ) → count_of d l ≡ k → count_of d l ≤ n
    go zero q = omega arith
    go (suc k) q = leb-true (count_of d l) n (every_one (λ (x : ℕ). leb (count_of x l) n) l e (count_among d l (omega arith)))

pub over_none : (n : ℕ) (l : List ℕ) → ((d : ℕ) → count_of d l ≤ n) → none_over n l ≡ true
over_none n l f = one_every (λ (x : ℕ). leb (count_of x l) n) l (λ d m. le-leb (count_of d l) n (f d))

-- the test for different byte strings says that they are
pub all_different_lem : (l : List (List ℕ)) → all_different same_bytes l ≡ true → Different l
unfolding all_different
all_different_lem [] e = tt
all_different_lem (a ∷ l) e =
    let t = both (not (holds same_bytes a l)) (all_different same_bytes l) e in
    (λ m. true≢false (sym (member_holds a l m) ∙ not-true (holds same_bytes a l) t.0), all_different_lem l t.1)

pub different_all : (l : List (List ℕ)) → Different l → all_different same_bytes l ≡ true
unfolding all_different
different_all [] d = refl
different_all (a ∷ l) d = join (not (holds same_bytes a l)) (all_different same_bytes l) (go (holds same_bytes a l) refl) (different_all l d.1)
  where
    go : (t : Bool) → holds same_bytes a l ≡ t → not t ≡ true
    go true q = absurd (d.0 (holds_member a l q))
    go false q = refl

-- where no two of a list are equal, no two of a part are
module _ {A : Type 0} where
  pub different_left : (l m : List A) → Different (l ++ m) → Different l
  different_left [] m d = tt
  different_left (a ∷ l) m d = (λ n. d.0 (Memᴰ.append_left m n), different_left l m d.1)

  pub different_right : (l m : List A) → Different (l ++ m) → Different m
  different_right [] m d = d
  different_right (a ∷ l) m d = different_right l m d.1
