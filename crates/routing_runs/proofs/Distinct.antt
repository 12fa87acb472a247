-- Lists without two equal elements: one is taken out, or put in at any place. Assumes nothing.
use mathlib.Core.Path.{sym}
use mathlib.Core.Logic.{⊎_elim}
use mathlib.Core.List.Memᴰ
use mathlib.Core.List.Memᴰ.{head as here}
use mathlib.Core.List.Memᴰ.{tail as there}
use mathlib.Core.List.{List, [], ◌∷◌, ◌++◌, append-nil, append_assoc}
use Rattle.nearest.proofs.Lists.{among_middle, middle_among, middle_self}
use Rattle.routing_table.specs.Rules.{◌among◌, Different}

module _ {A : Type 0} where
  -- what is taken out was there once
  pub different_out : (xs : List A) (a : A) (ys : List A) → Different (xs ++ a ∷ ys) → (¬ (a among (xs ++ ys))) × Different (xs ++ ys)
  different_out [] a ys d = d
  different_out (x ∷ xs) a ys d =
      let r = different_out xs a ys d.1 in (
        λ m. ⊎_elim (λ e. d.0 (Memᴰ.cast (sym e) (middle_self xs a ys))) r.0 (Memᴰ.cases_cons m),
        (λ m. d.0 (middle_among xs a ys m), r.1),
      )

  -- what is not there is put in
  pub different_in : (xs : List A) (a : A) (ys : List A) → ¬ (a among (xs ++ ys)) → Different (xs ++ ys) → Different (xs ++ a ∷ ys)
  different_in [] a ys n d = (n, d)
  different_in (x ∷ xs) a ys n d =
      (λ m. ⊎_elim (λ e. n (here (sym e))) d.0 (among_middle xs a ys m), different_in xs a ys (λ m. n (there m)) d.1)

  -- at the end
  pub different_end : (xs : List A) (a : A) → ¬ (a among xs) → Different xs → Different (xs ++ a ∷ [])
  different_end xs a n d = different_in xs a [] (rw append-nil n) (rw append-nil d)

  -- of a part behind another
  pub different_behind : (xs ys : List A) (a : A) (zs : List A) → Different (xs ++ (ys ++ a ∷ zs))
      → (¬ (a among (xs ++ (ys ++ zs)))) × Different (xs ++ (ys ++ zs))
  different_behind xs ys a zs d = rw append_assoc at (different_out (xs ++ ys) a zs (rw append_assoc d))

  -- what is there without it is there with it
  pub among_behind : {b : A} (xs ys : List A) (a : A) (zs : List A) → b among (xs ++ (ys ++ zs)) → b among (xs ++ (ys ++ a ∷ zs))
  among_behind {b} xs ys a zs m = rw append_assoc at (middle_among {k = b} (xs ++ ys) a zs (rw append_assoc m))
