-- The first and the last place of something in a list: below the length exactly where the list holds it. Over any element and
-- any test. Assumes nothing.
use Prim.Native.Nat.{suc, ◌<◌}
use native.Mathlib.Omega.{arith}
use mathlib.Core.Path.{◌≡◌, refl, ◌∙◌}
use mathlib.Core.Bool.{Bool, true, false, not, cond, ◌&&◌, ◌||◌}
use mathlib.Core.List.{List, [], ◌∷◌}
use lib.Dec.{ltb, leb-suc-suc}
use lib.ListN.{length}
use borrow.Author.Tests.{lt-ltb, ltb-true}
use Rattle.octets.specs.Equal.{holds}
use Rattle.routing_table.specs.Places.{first_place, last_place}

module _ {A : Type 0} (same : A → A → Bool) (a : A) where
  -- the first place is below the length exactly where the list holds a
  pub place_holds : (l : List A) → ltb (first_place same a l) (length l) ≡ holds same a l
  unfolding first_place holds
  place_holds [] = refl
  place_holds (b ∷ l) = go (same a b) (place_holds l)
    where
      go : (t : Bool) → ltb (first_place same a l) (length l) ≡ holds same a l
          → ltb (cond t 0 (suc (first_place same a l))) (suc (length l)) ≡ (t || holds same a l)
      go true below = lt-ltb 0 (suc (length l)) (omega arith)
      go false below = leb-suc-suc (suc (first_place same a l)) (length l) ∙ below

  -- and so is the last
  pub last_holds : (l : List A) → ltb (last_place same a l) (length l) ≡ holds same a l
  unfolding last_place holds
  last_holds [] = refl
  last_holds (b ∷ l) = go (same a b) (holds same a l) refl (last_holds l)
    where
      go : (t u : Bool) → holds same a l ≡ u → ltb (last_place same a l) (length l) ≡ holds same a l
          → ltb (cond (t && not u) 0 (suc (last_place same a l))) (suc (length l)) ≡ (t || u)
      go true true e below = leb-suc-suc (suc (last_place same a l)) (length l) ∙ below ∙ e
      go true false e below = lt-ltb 0 (suc (length l)) (omega arith)
      go false u e below = leb-suc-suc (suc (last_place same a l)) (length l) ∙ below ∙ e

-- what a list holds has its places below the length
module _ {A : Type 0} (same : A → A → Bool) (a : A) (l : List A) (h : holds same a l ≡ true) where
  pub first_below : first_place same a l < length l
  first_below = ltb-true (first_place same a l) (length l) (place_holds same a l ∙ h)

  pub last_below : last_place same a l < length l
  last_below = ltb-true (last_place same a l) (length l) (last_holds same a l ∙ h)
