-- The first n of a list, with another value behind its end: their number, each of them, and what a store among them or behind them
-- does. All over any element. Assumes nothing.
use Prim.Native.Nat.{ℕ, zero, suc, ◌<◌, ◌≤◌}
use native.Mathlib.Omega.{arith}
use mathlib.Core.Path.{◌≡◌, refl, sym, ap, ◌∙◌}
use mathlib.Core.List.{List, [], ◌∷◌, ◌++◌, map}
use lib.ListN.{length, get_or, take, set, length-set, length-map}
use lib.Seq.{take-set-lt, take-suc-set}
use Rattle.routing_table.specs.View.{firsts}

module _ {A : Type 0} (other : A) where
  pub length_firsts : (n : ℕ) (l : List A) → length (firsts other n l) ≡ n
  unfolding firsts
  length_firsts zero l = refl
  length_firsts (suc n) [] = ap suc (length_firsts n [])
  length_firsts (suc n) (a ∷ l) = ap suc (length_firsts n l)

  pub get_firsts : (n : ℕ) (l : List A) (i : ℕ) → i < n → get_or (firsts other n l) i other ≡ get_or l i other
  unfolding firsts
  get_firsts zero l i h = absurd (omega arith)
  get_firsts (suc n) [] zero h = refl
  get_firsts (suc n) [] (suc i) h = get_firsts n [] i (omega arith)
  get_firsts (suc n) (a ∷ l) zero h = refl
  get_firsts (suc n) (a ∷ l) (suc i) h = get_firsts n l i (omega arith)

  pub firsts_take : (n : ℕ) (l : List A) → n ≤ length l → firsts other n l ≡ take n l
  unfolding firsts
  firsts_take zero l h = refl
  firsts_take (suc n) [] h = absurd (omega arith)
  firsts_take (suc n) (a ∷ l) h = ap (λ (r : List A). a ∷ r) (firsts_take n l (omega arith))

  -- a store among them
  pub firsts_set : (n : ℕ) (l : List A) (at : ℕ) (a : A) → at < n → n ≤ length l → firsts other n (set l at a) ≡ set (firsts other n l) at a
  firsts_set n l at a h fits =
      let long : length (set l at a) ≡ length l = length-set l at a in
      firsts_take n (set l at a) (omega arith) ∙ take-set-lt n l at a h ∙ ap (λ (r : List A). set r at a) (sym (firsts_take n l fits))

  -- a store right behind them is one more
  pub firsts_more : (n : ℕ) (l : List A) (a : A) → n < length l → firsts other (suc n) (set l n a) ≡ firsts other n l ++ (a ∷ [])
  firsts_more n l a h =
      let long : length (set l n a) ≡ length l = length-set l n a in
      firsts_take (suc n) (set l n a) (omega arith) ∙ take-suc-set l n a h
      ∙ ap (λ (r : List A). r ++ (a ∷ [])) (sym (firsts_take n l (omega arith)))

  -- what a function makes of each of them
  module _ {B : Type 0} (f : A → B) (n : ℕ) (l : List A) where
    pub length_of_firsts : length (map f (firsts other n l)) ≡ n
    length_of_firsts = length-map (firsts other n l) f ∙ length_firsts n l
