-- A fact of each key of a list, by recursion on the list; of the key at a place, of a member, and from all members.
-- Assumes nothing.
use Prim.Native.Nat.{ℕ, zero, suc, ◌<◌}
use native.Mathlib.Omega.{arith}
use mathlib.Core.Path.{◌≡◌, refl, sym, subst}
use mathlib.Core.Logic.{◌⊎◌, inl, inr}
use mathlib.Core.List.Memᴰ
use mathlib.Core.List.{List, [], ◌∷◌, Memᴰ}
use lib.ListN.{length, get_or, take}
use Rattle.key_index.specs.Keys.{Each}

-- of the key at a place
pub each_at : (P : List ℕ → Type 0) (ks : List (List ℕ)) (i : ℕ) → Each P ks → i < length ks → P (get_or ks i [])
each_at P [] i h l = absurd (omega arith)
each_at P (k ∷ ks) zero h l = h.0
each_at P (k ∷ ks) (suc i) h l = each_at P ks i h.1 (omega arith)

-- of a member
pub each_member : (P : List ℕ → Type 0) (ks : List (List ℕ)) {k : List ℕ} → Each P ks → Memᴰ k ks → P k
each_member P [] h m = absurd (Memᴰ.not-nil m)
each_member P (j ∷ ks) {k} h m = go (Memᴰ.cases_cons m) (λ n. each_member P ks h.1 n)
  where
    go : (k ≡ j) ⊎ Memᴰ k ks → (Memᴰ k ks → P k) → P k
    go (inl e) below = subst P (sym e) h.0
    go (inr n) below = below n

-- from a fact of each member
pub each_all : (P : List ℕ → Type 0) (ks : List (List ℕ)) → ((k : List ℕ) → Memᴰ k ks → P k) → Each P ks
each_all P [] h = tt
each_all P (k ∷ ks) h = (h k (Memᴰ.head refl), each_all P ks (λ j m. h j (Memᴰ.tail m)))

-- of each of the first n
pub each_take : (P : List ℕ → Type 0) (n : ℕ) (ks : List (List ℕ)) → Each P ks → Each P (take n ks)
each_take P zero ks h = tt
each_take P (suc n) [] h = tt
each_take P (suc n) (k ∷ ks) h = (h.0, each_take P n ks h.1)
