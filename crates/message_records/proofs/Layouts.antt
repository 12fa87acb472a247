-- The count of a list's layout, test by test in the order of the code; and what the count says: none means that the list is not read, any
-- other is the number of its records. Assumes nothing.
use Prim.Native.Nat.{ℕ, ◌*◌, ◌/◌, ◌%◌, ◌<◌, ◌≤◌}
use native.Mathlib.Omega.{arith}
use mathlib.Core.Path.{◌≡◌, refl, sym, ◌∙◌}
use mathlib.Core.Bool.{Bool, true, false, cond, ◌&&◌, and-false}
use mathlib.Core.List.{List, [], ◌∷◌}
use mathlib.Core.Option.{some, none}
use lib.ListN.{length}
use borrow.Author.Tests.{le-leb, lt-leb, eq-eqb, ne_eqb}
use Rattle.message.specs.Records.{offset_of, offsets_of, count_of, ordered, between, laid_out, records_of}
use Rattle.message.proofs.Records.{test_laid}
use Rattle.std.specs.Prelude.{Some, None}
use Rattle.octets.specs.Bytes.{le}
use lib.Dec.{leb, eqb}
use Rattle.message_records.specs.Places.{laid_count}

-- the tests of a list that has bytes
module _ (l : List ℕ) (some_bytes : 0 < length l) where
  by_layout : laid_count l ≡ cond (laid_out l) (Some (count_of l)) None
  unfolding laid_count
  by_layout = go l some_bytes
    where
      go : (k : List ℕ) → 0 < length k → laid_count k ≡ cond (laid_out k) (Some (count_of k)) None
      go [] h = absurd (omega arith)
      go (x ∷ k) h = refl

  module _ (o : ℕ) (first : o ≡ offset_of l) where
    no_layout : laid_out l ≡ false → None ≡ laid_count l
    no_layout e = sym (by_layout ∙ rw e)

    -- the first offset is below 4
    pub too_low : o < 4 → None ≡ laid_count l
    unfolding laid_out
    too_low h = no_layout (rw (← first, lt-leb 4 o h, and-false (leb 4 (length l))))

    -- it is no multiple of 4
    pub uneven : (o % 4 ≡ 0 → ⊥) → None ≡ laid_count l
    unfolding laid_out
    uneven h = no_layout (rw (← first, ne_eqb (o % 4) 0 h, and-false (leb 4 (length l) && leb 4 o)))

    -- it passes the end
    pub too_high : length l < o → None ≡ laid_count l
    unfolding laid_out
    too_high h = no_layout (rw (← first, lt-leb o (length l) h, and-false (leb 4 (length l) && leb 4 o && eqb (o % 4) 0)))

    module _ (a : 4 ≤ o) (b : o % 4 ≡ 0) (d : o ≤ length l) (t : Bool) (is : t ≡ ordered (length l) (offsets_of (o / 4) l)) where
      by_order : laid_count l ≡ cond t (Some (o / 4)) None
      unfolding laid_out count_of
      by_order =
          let long : 4 ≤ length l = omega arith in
          by_layout ∙ rw (← first, le-leb 4 (length l) long, le-leb 4 o a, eq-eqb (o % 4) 0 b, le-leb o (length l) d, ← is)

      -- the order of the offsets decides
      pub laid_in_order : t ≡ true → Some (o / 4) ≡ laid_count l
      laid_in_order e = sym (by_order ∙ rw e)

      pub out_of_order : t ≡ false → None ≡ laid_count l
      out_of_order e = sym (by_order ∙ rw e)

pub no_bytes : (l : List ℕ) → length l ≡ 0 → Some 0 ≡ laid_count l
unfolding laid_count
no_bytes [] h = refl
no_bytes (x ∷ l) h = absurd (omega arith)

-- a list that is read: its count, its offsets, and its records between them
pub record Read (l : List ℕ) (n : ℕ) : Type 0 where
  pub count : n ≡ count_of l
  pub inside : 4 * n ≤ length l
  pub in_order_lem : ordered (length l) (offsets_of n l) ≡ true
  pub records : records_of l ≡ some (between l (offsets_of n l))

-- a list that has a count is read, for as many records
pub counted : (l : List ℕ) (n : ℕ) → laid_count l ≡ Some n → Read l n
unfolding laid_count laid_out records_of count_of offsets_of ordered between offset_of le
counted [] n is = let none : n ≡ 0 = cc in rw none (record { count = refl; inside = omega arith; in_order_lem = refl; records = refl })
counted (x ∷ t) n is = go (laid_out (x ∷ t)) refl is
  where
    l : List ℕ
    l = x ∷ t

    go : (b : Bool) → laid_out (x ∷ t) ≡ b → cond b (Some (count_of (x ∷ t))) None ≡ Some n → Read (x ∷ t) n
    go true e w =
        let laid = test_laid l e in
        let here : n ≡ count_of l = cc in
        rw here (record { count = refl; inside = laid.inside; in_order_lem = laid.in_order_lem; records = rw e })
    go false e w = cc

-- a list that has none is not read
pub uncounted : (l : List ℕ) → laid_count l ≡ None → records_of l ≡ none
unfolding laid_count records_of
uncounted [] is = cc
uncounted (x ∷ t) is = go (laid_out (x ∷ t)) refl is
  where
    go : (b : Bool) → laid_out (x ∷ t) ≡ b → cond b (Some (count_of (x ∷ t))) None ≡ None → records_of (x ∷ t) ≡ none
    go true e w = cc
    go false e w = rw e
