-- The test for equal byte strings says equality, and the test for what is in a list says membership. Each law goes by recursion on
-- the list, with the cases of one test as a helper. Assumes nothing.
use Prim.Native.Nat.{ℕ, suc, ◌+◌, ◌<◌, ◌≤◌}
use native.Mathlib.Numerals.{add-one}
use native.Mathlib.Omega.{arith}
use mathlib.Core.Path.{◌≡◌, refl, sym, ap, ap₂, ◌∙◌}
use mathlib.Core.Bool.{Bool, true, false, ◌&&◌, ◌||◌, true≢false}
use mathlib.Core.Logic.{◌↔◌, ◌⊎◌, inl, inr}
use mathlib.Core.List.Memᴰ
use mathlib.Core.List.{List, [], ◌∷◌, Memᴰ}
use lib.Dec.{eqb}
use lib.Pointwise.{pointwise}
use Rattle.std.specs.Prelude.{nat_eq}
use lib.ListN.{length, get_or, drop, drop_of_length-le}
use lib.Seq.{drop-cons}
use borrow.Author.Tests.{eqb-true, eq-eqb, ne_eqb}
use Rattle.octets.specs.Equal.{same_bytes, holds}

-- the test is the equality of slices
pub same_pointwise : (xs ys : List ℕ) → pointwise nat_eq xs ys ≡ same_bytes xs ys
unfolding same_bytes
same_pointwise [] [] = refl
same_pointwise [] (y ∷ ys) = refl
same_pointwise (x ∷ xs) [] = refl
same_pointwise (x ∷ xs) (y ∷ ys) = ap (λ (t : Bool). eqb x y && t) (same_pointwise xs ys)

-- equal byte strings pass the test
pub same_refl : (xs : List ℕ) → same_bytes xs xs ≡ true
unfolding same_bytes
same_refl [] = refl
same_refl (x ∷ xs) = rw (eq-eqb x x refl) (same_refl xs)

-- byte strings that pass the test are equal
pub same_true : (xs ys : List ℕ) → same_bytes xs ys ≡ true → xs ≡ ys
unfolding same_bytes
same_true [] [] e = refl
same_true [] (y ∷ ys) e = absurd (true≢false (sym e))
same_true (x ∷ xs) [] e = absurd (true≢false (sym e))
same_true (x ∷ xs) (y ∷ ys) e = go (eqb x y) refl e (same_true xs ys)
  where
    go : (t : Bool) → eqb x y ≡ t → (t && same_bytes xs ys) ≡ true → (same_bytes xs ys ≡ true → xs ≡ ys) → x ∷ xs ≡ y ∷ ys
    go true q f below = ap₂ (λ (z : ℕ) (zs : List ℕ). z ∷ zs) (eqb-true x y q) (below f)
    go false q f below = absurd (true≢false (sym f))

-- equality, from equality
pub true_same : (xs ys : List ℕ) → xs ≡ ys → same_bytes xs ys ≡ true
true_same xs ys e = ap (same_bytes xs) (sym e) ∙ same_refl xs

-- the test is equality
pub same_iff : (xs ys : List ℕ) → (same_bytes xs ys ≡ true) ↔ (xs ≡ ys)
same_iff xs ys = (same_true xs ys, true_same xs ys)

-- byte strings that fail the test differ
pub same_false : (xs ys : List ℕ) → same_bytes xs ys ≡ false → xs ≡ ys → ⊥
same_false xs ys e q = true≢false (sym (true_same xs ys q) ∙ e)

-- byte strings that differ fail the test
pub differ_same : (xs ys : List ℕ) → (xs ≡ ys → ⊥) → same_bytes xs ys ≡ false
differ_same xs ys n = go (same_bytes xs ys) refl
  where
    go : (t : Bool) → same_bytes xs ys ≡ t → t ≡ false
    go true e = absurd (n (same_true xs ys e))
    go false e = refl

-- what a test for equality finds in a list is what is in it, over any element
module _ {A : Type 0} (same : A → A → Bool) (equal : (a b : A) → (same a b ≡ true) ↔ (a ≡ b)) where
  pub found_member : (a : A) (l : List A) → holds same a l ≡ true → Memᴰ a l
  unfolding holds
  found_member a [] e = absurd (true≢false (sym e))
  found_member a (b ∷ l) e = go (same a b) refl e (found_member a l)
    where
      go : (t : Bool) → same a b ≡ t → (t || holds same a l) ≡ true → (holds same a l ≡ true → Memᴰ a l) → Memᴰ a (b ∷ l)
      go true q f below = Memᴰ.head ((equal a b).0 q)
      go false q f below = Memᴰ.tail (below f)

  pub member_found : (a : A) (l : List A) → Memᴰ a l → holds same a l ≡ true
  unfolding holds
  member_found a [] m = absurd (Memᴰ.not-nil m)
  member_found a (b ∷ l) m = go (same a b) refl (Memᴰ.cases_cons m) (member_found a l)
    where
      go : (t : Bool) → same a b ≡ t → (a ≡ b) ⊎ Memᴰ a l → (Memᴰ a l → holds same a l ≡ true) → (t || holds same a l) ≡ true
      go true q c below = refl
      go false q (inl e) below = absurd (true≢false (sym ((equal a b).1 e) ∙ q))
      go false q (inr n) below = below n

-- what the test for equal byte strings finds in a list is in it
pub holds_member : (a : List ℕ) (l : List (List ℕ)) → holds same_bytes a l ≡ true → Memᴰ a l
holds_member = found_member same_bytes same_iff

-- it finds what is in a list
pub member_holds : (a : List ℕ) (l : List (List ℕ)) → Memᴰ a l → holds same_bytes a l ≡ true
member_holds = member_found same_bytes same_iff

-- the search for something in a list, one turn: what is left at place i, by the element there and by what is left behind it
module _ {A : Type 0} (same : A → A → Bool) (a : A) (l : List A) (i : ℕ) where
  pub holds_left : (none : A) → i < length l → holds same a (drop i l) ≡ (same a (get_or l i none) || holds same a (drop (i + 1) l))
  unfolding holds
  holds_left none h = rw add-one (ap (holds same a) (drop-cons l i none h))

  -- nothing is left at the end
  pub holds_end : length l ≤ i → holds same a (drop i l) ≡ false
  unfolding holds
  holds_end h = ap (holds same a) (drop_of_length-le l h)

-- byte strings of different lengths fail the test
pub differ_length : (xs ys : List ℕ) → (length xs ≡ length ys → ⊥) → same_bytes xs ys ≡ false
differ_length xs ys n = differ_same xs ys (λ e. n (ap length e))

-- the test of what is left at place i, by the byte there
module _ (a b : List ℕ) (l : length a ≡ length b) (i : ℕ) where
  split : i < length a → same_bytes (drop i a) (drop i b) ≡ same_bytes (get_or a i 0 ∷ drop (suc i) a) (get_or b i 0 ∷ drop (suc i) b)
  split h = ap₂ (λ (xs ys : List ℕ). same_bytes xs ys) (drop-cons a i 0 h) (drop-cons b i 0 (omega arith))

  -- a byte that differs decides it
  pub same_here : i < length a → (get_or a i 0 ≡ get_or b i 0 → ⊥) → same_bytes (drop i a) (drop i b) ≡ false
  unfolding same_bytes
  same_here h n = split h ∙ rw (ne_eqb (get_or a i 0) (get_or b i 0) n)

  -- an equal one leaves it to the rest
  pub same_later : i < length a → get_or a i 0 ≡ get_or b i 0 → same_bytes (drop i a) (drop i b) ≡ same_bytes (drop (i + 1) a) (drop (i + 1) b)
  unfolding same_bytes
  same_later h e = rw add-one (split h ∙ rw (eq-eqb (get_or a i 0) (get_or b i 0) e))

  -- nothing is left at the end
  pub same_end : length a ≤ i → same_bytes (drop i a) (drop i b) ≡ true
  unfolding same_bytes
  same_end h = ap₂ (λ (xs ys : List ℕ). same_bytes xs ys) (drop_of_length-le a h) (drop_of_length-le b {i = i} (omega arith))
