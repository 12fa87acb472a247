-- What is in a list that is taken apart around one of its elements, or that has one more at its end. Assumes nothing.
use mathlib.Core.Path.{◌≡◌, sym, subst}
use mathlib.Core.Logic.{◌⊎◌, ⊎_elim}
use mathlib.Core.List.Memᴰ
use mathlib.Core.List.{List, [], ◌∷◌, ◌++◌}
use Rattle.nearest.proofs.Lists.{among_middle, middle_among, middle_self}
use Rattle.routing_table.specs.Rules.{◌among◌}

module _ {A : Type 0} where
  -- x stands in the list,
  pub in_self : {l : List A} (front : List A) (x : A) (back : List A) → l ≡ front ++ x ∷ back → x among l
  in_self front x back stands = subst (λ (k : List A). x among k) (sym stands) (middle_self front x back)

  -- and so does each of the others;
  pub in_other : {l : List A} {a : A} (front : List A) (x : A) (back : List A) → l ≡ front ++ x ∷ back → a among front ++ back → a among l
  in_other {a = a} front x back stands m = subst (λ (k : List A). a among k) (sym stands) (middle_among front x back m)

  -- what is in the list is one of these
  pub in_cases : {l : List A} {a : A} (front : List A) (x : A) (back : List A) → l ≡ front ++ x ∷ back → a among l
      → (a ≡ x) ⊎ (a among front ++ back)
  in_cases {a = a} front x back stands m = among_middle front x back (subst (λ (k : List A). a among k) stands m)

  module _ (P : A → Type 0) where
    -- a fact of each, from one of x and of each of the others
    pub each_around : (front : List A) (x : A) (back : List A) → P x → ((a : A) → a among front ++ back → P a)
        → (a : A) → a among front ++ x ∷ back → P a
    each_around front x back p others a m = ⊎_elim (λ (e : a ≡ x). subst P (sym e) p) (others a) (among_middle front x back m)

    -- with x at the end
    pub each_last : (l : List A) (x : A) → P x → ((a : A) → a among l → P a) → (a : A) → a among l ++ x ∷ [] → P a
    each_last l x p others a m =
        ⊎_elim (others a) (λ n. subst P (sym (Memᴰ.eq_of_singleton n)) p) (Memᴰ.append_cases l m)
