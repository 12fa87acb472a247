-- The search for two equal elements, row by row: `Clear` holds before a row, `Row` inside one. Each says that the answer on all elements is
-- the answer on those that are left. Over any element and any test. Assumes nothing.
use Prim.Native.Nat.{ℕ, ◌+◌, ◌<◌, ◌≤◌}
use native.Mathlib.Numerals.{add-one}
use native.Mathlib.Omega.{arith}
use mathlib.Core.Path.{◌≡◌, refl, sym, ap, ◌∙◌}
use mathlib.Core.Bool.{Bool, true, false, not, ◌&&◌}
use mathlib.Core.List.{List}
use lib.ListN.{length, get_or, drop, drop_of_length-le}
use lib.Seq.{drop-cons}
use Rattle.octets.specs.Equal.{holds, all_different}
use Rattle.octets.proofs.Equal.{holds_left, holds_end}

-- no element before i is equal to another of the n elements
pub record Clear {A : Type 0} (same : A → A → Bool) (l : List A) (n i : ℕ) : Type 0 where
  pub all : length l ≡ n
  pub rest : all_different same l ≡ all_different same (drop i l)

-- besides, element i is equal to none between it and j
pub record Row {A : Type 0} (same : A → A → Bool) (none : A) (l : List A) (n i j : ℕ) : Type 0 where
  pub clear : Clear same l n i
  pub here : i < n
  pub left : holds same (get_or l i none) (drop (i + 1) l) ≡ holds same (get_or l i none) (drop j l)

module _ {A : Type 0} (same : A → A → Bool) (none : A) (l : List A) (n : ℕ) where
  -- what is left of the search, by the row there
  rest_at : (i : ℕ) → i < length l
      → all_different same (drop i l) ≡ (not (holds same (get_or l i none) (drop (i + 1) l)) && all_different same (drop (i + 1) l))
  unfolding all_different
  rest_at i h = rw add-one (ap (all_different same) (drop-cons l i none h))

  -- before the first row
  pub clear_start : length l ≡ n → (i : ℕ) → i ≡ 0 → Clear same l n i
  clear_start e i first = record { all = e; rest = ap (λ (k : ℕ). all_different same (drop k l)) (sym first) }

  module _ (i : ℕ) (c : Clear same l n i) where
    -- after the last row no two are equal
    pub clear_end : n ≤ i → all_different same l ≡ true
    unfolding all_different
    clear_end h = c.rest ∙ ap (all_different same) (drop_of_length-le l {i = i} (omega arith))

    -- before the first element of a row
    pub row_start : i < n → Row same none l n i (i + 1)
    row_start h = record { clear = c; here = h; left = refl }

  module _ (i j : ℕ) (r : Row same none l n i j) where
    -- after the last element of a row
    pub row_end : n ≤ j → Clear same l n (i + 1)
    row_end h =
        let nowhere : holds same (get_or l i none) (drop (i + 1) l) ≡ false =
        r.left ∙ holds_end same (get_or l i none) l j (omega arith) in
        record {
          all = r.clear.all;
          rest = r.clear.rest ∙ rest_at i (omega arith) ∙ rw nowhere;
        }

    -- the two differ: the rest of the row is left
    pub row_next : j < n → same (get_or l i none) (get_or l j none) ≡ false → Row same none l n i (j + 1)
    row_next h e =
        record {
          clear = r.clear;
          here = r.here;
          left = r.left ∙ holds_left same (get_or l i none) l j none (omega arith) ∙ rw e;
        }

    -- they are equal: the search is over
    pub pair_found : j < n → same (get_or l i none) (get_or l j none) ≡ true → all_different same l ≡ false
    pair_found h e =
        let one : holds same (get_or l i none) (drop (i + 1) l) ≡ true = r.left ∙ holds_left same (get_or l i none) l j none (omega arith) ∙ rw e in
        r.clear.rest ∙ rest_at i (omega arith) ∙ rw one
