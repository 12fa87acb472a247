-- What stands at the first and at the last place that a search finds, and what does not stand before the one or behind the other.
-- Assumes nothing.
use Prim.Native.Nat.{ℕ, suc, ◌<◌}
use native.Mathlib.Omega.{arith}
use mathlib.Core.Path.{◌≡◌, refl, sym, ap, ◌∙◌}
use mathlib.Core.Bool.{Bool, true, false, not, cond, ◌&&◌, ◌||◌, true≢false}
use mathlib.Core.Logic.{⊎_elim}
use mathlib.Core.List.Memᴰ
use mathlib.Core.List.{List, [], ◌∷◌, map}
use lib.ListN.{length, get_or, take, drop}
use Rattle.octets.specs.Equal.{holds}
use Rattle.routing_table.specs.Places.{first_place, last_place}
use Rattle.routing_table.specs.Rules.{◌among◌}

-- the element at place i of a list is one that is looked for by what f says of it, and none of the others is
pub record FoundAt {A B : Type 0} (same : A → A → Bool) (a : A) (f : B → A) (l : List B) (i : ℕ) (others : List B) : Type 0 where
  pub below : i < length l
  pub alike : (none : B) → same a (f (get_or l i none)) ≡ true
  pub unlike : (b : B) → b among others → same a (f b) ≡ false

neither : (a b : Bool) → (a || b) ≡ false → (a ≡ false) × (b ≡ false)
neither true b e = absurd (true≢false e)
neither false b e = (refl, e)

module _ {A B : Type 0} (same : A → A → Bool) (a : A) (f : B → A) where
  -- a fact of the first and of each behind it
  unlike_cons : (c : B) (l : List B) → same a (f c) ≡ false → ((b : B) → b among l → same a (f b) ≡ false)
      → (b : B) → b among (c ∷ l) → same a (f b) ≡ false
  unlike_cons c l q rest b m = ⊎_elim (λ e. ap (λ (x : B). same a (f x)) e ∙ q) (rest b) (Memᴰ.cases_cons m)

  -- none is looked for where the search finds none
  pub holds_none : (l : List B) → holds same a (map f l) ≡ false → (b : B) → b among l → same a (f b) ≡ false
  unfolding holds
  holds_none [] e b m = absurd (Memᴰ.not-nil m)
  holds_none (c ∷ l) e b m =
      let n = neither (same a (f c)) (holds same a (map f l)) e in
      unlike_cons c l n.0 (holds_none l n.1) b m

  -- the first place: none before it
  pub first_at : (l : List B) → holds same a (map f l) ≡ true
      → FoundAt same a f l (first_place same a (map f l)) (take (first_place same a (map f l)) l)
  unfolding holds first_place
  first_at [] e = absurd (true≢false (sym e))
  first_at (c ∷ l) e = go (same a (f c)) refl e (first_at l)
    where
      go : (t : Bool) → same a (f c) ≡ t → (t || holds same a (map f l)) ≡ true
          → (holds same a (map f l) ≡ true → FoundAt same a f l (first_place same a (map f l)) (take (first_place same a (map f l)) l))
          → FoundAt same a f (c ∷ l) (cond t 0 (suc (first_place same a (map f l)))) (take (cond t 0 (suc (first_place same a (map f l)))) (c ∷ l))
      go true q g rest = record { below = omega arith; alike = λ none. q; unlike = λ b m. absurd (Memᴰ.not-nil m) }
      go false q g rest =
          let r = rest g in
          record { below = omega (arith, r.below); alike = r.alike; unlike = unlike_cons c _ q r.unlike }

  -- the last place: none behind it
  pub last_at : (l : List B) → holds same a (map f l) ≡ true
      → FoundAt same a f l (last_place same a (map f l)) (drop (suc (last_place same a (map f l))) l)
  unfolding holds last_place
  last_at [] e = absurd (true≢false (sym e))
  last_at (c ∷ l) e = go (same a (f c)) (holds same a (map f l)) refl refl e (last_at l)
    where
      later : FoundAt same a f l (last_place same a (map f l)) (drop (suc (last_place same a (map f l))) l)
          → FoundAt same a f (c ∷ l) (suc (last_place same a (map f l))) (drop (suc (last_place same a (map f l))) l)
      later r = record { below = omega (arith, r.below); alike = r.alike; unlike = r.unlike }

      go : (t h : Bool) → same a (f c) ≡ t → holds same a (map f l) ≡ h → (t || h) ≡ true
          → (holds same a (map f l) ≡ true → FoundAt same a f l (last_place same a (map f l)) (drop (suc (last_place same a (map f l))) l))
          → FoundAt same a f (c ∷ l) (cond (t && not h) 0 (suc (last_place same a (map f l))))
          (drop (cond (t && not h) 0 (suc (last_place same a (map f l)))) l)
      go true true q n g rest = later (rest n)
      go true false q n g rest = record { below = omega arith; alike = λ none. q; unlike = holds_none l n }
      go false true q n g rest = later (rest n)
      go false false q n g rest = absurd (true≢false (sym g))
