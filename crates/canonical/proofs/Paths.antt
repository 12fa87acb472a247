-- The way from a leaf to the root, sibling by sibling of a proof's bytes. Assumes nothing.
use Prim.Native.Nat.{ℕ, zero, suc, ◌+◌, ◌/◌, ◌%◌, ◌<◌, ◌≤◌}
use native.Mathlib.Omega.{arith}
use mathlib.Core.Path.{◌≡◌, refl, sym, ap, ap₂, ◌∙◌}
use mathlib.Core.Bool.{Bool, cond}
use mathlib.Core.List.{List, [], ◌∷◌}
use lib.ListN.{length, get_or, take, drop, drop_of_length-le}
use lib.Seq.{drop-cons}
use native.Mathlib.Numerals.{add-one}
use Rattle.std.specs.Simd.{first_chunks}
use borrow.Author.Tests.{eq-eqb, ne_eqb}
use Rattle.accumulator.specs.Tree.{parent, joined, root_along}
use Rattle.accumulator.specs.Verdict.{chunks_of}

module _ (index : ℕ) (node sibling left right made : List ℕ) (is : made ≡ parent left right) where
  -- at an even index the sibling is the right half
  pub joined_even : index % 2 ≡ 0 → left ≡ node → right ≡ sibling → made ≡ joined index node sibling
  unfolding joined
  joined_even even l r = is ∙ ap₂ parent l r ∙ sym (ap (λ (t : Bool). cond t (parent node sibling) (parent sibling node)) (eq-eqb (index % 2) 0 even))

  -- at an odd one the left
  pub joined_odd : (index % 2 ≡ 0 → ⊥) → left ≡ sibling → right ≡ node → made ≡ joined index node sibling
  unfolding joined
  joined_odd odd l r = is ∙ ap₂ parent l r ∙ sym (ap (λ (t : Bool). cond t (parent node sibling) (parent sibling node)) (ne_eqb (index % 2) 0 odd))

-- one sibling
pub step : (parts : List (List ℕ)) (i index : ℕ) → i < length parts → (node next sibling : List ℕ) → sibling ≡ get_or parts i []
    → next ≡ joined index node sibling → root_along (index / 2) next (drop (i + 1) parts) ≡ root_along index node (drop i parts)
unfolding root_along
step parts i index below node next sibling is joins =
    sym
    (ap (root_along index node) (drop-cons parts i [] below)
    ∙ ap₂ (λ (x : List ℕ) (n : ℕ). root_along (index / 2) x (drop n parts)) (ap (joined index node) (sym is) ∙ sym joins) (sym (add-one i)))

-- no sibling is left
pub last : (parts : List (List ℕ)) (i index : ℕ) (node root : List ℕ) → length parts ≤ i → root_along index node (drop i parts) ≡ root
    → (wanted : List ℕ) → root ≡ wanted → node ≡ wanted
unfolding root_along
last parts i index node root h e wanted is = ap (root_along index node) (sym (drop_of_length-le parts h)) ∙ e ∙ is

-- the parts of a proof are its siblings
pub parts_are : (proof : List ℕ) (parts : List (List ℕ)) → parts ≡ first_chunks 32 (length proof / 32) proof → length proof ≡ 480 → parts ≡ chunks_of 15 proof
unfolding chunks_of
parts_are proof parts is h =
    let n : length proof / 32 ≡ 15 = omega arith in
    is ∙ ap (λ (k : ℕ). first_chunks 32 k proof) n ∙ same 15 proof
  where
    same : (n : ℕ) (l : List ℕ) → first_chunks 32 n l ≡ chunks_of n l
    same zero l = refl
    same (suc n) l = ap (λ (x : List (List ℕ)). take 32 l ∷ x) (same n (drop 32 l))
