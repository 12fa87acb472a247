-- The offsets of a list that stands in a message: each is read from four bytes of the message, and their order goes pair by pair, with the
-- list's size behind the last. Assumes nothing.
use Prim.Native.Nat.{ℕ, zero, suc, ◌+◌, ◌*◌, ◌-◌, ◌<◌, ◌≤◌}
use native.Mathlib.Numerals.{add-one}
use native.Mathlib.Omega.{arith}
use mathlib.Core.Path.{◌≡◌, refl, sym, ap, ◌∙◌}
use mathlib.Core.Bool.{Bool, true, ◌&&◌, and-true}
use mathlib.Core.List.{List, [], ◌∷◌}
use lib.ListN.{length, get_or, take, drop, length-drop, drop_of_length-le, get_or-eq_default}
use lib.Seq.{drop-drop, drop_at, length-take-le, take-add}
use lib.Dec.{leb}
use borrow.Author.Tests.{leb-true}
use Rattle.std.specs.List.{list_all, range_with_len}
use Rattle.octets.proofs.Tests.{both}
use Rattle.message.specs.Records.{offset_of, offsets_of, ordered}
use Rattle.message.specs.Reading.{part_at}
use Rattle.message.proofs.Records.{offsets_count}
use Rattle.message_records.specs.Places.{offset_at}

-- behind the first k bytes of a part stands a smaller part
pub part_drop : (s : List ℕ) (base size k : ℕ) → k ≤ size → base + size ≤ length s
    → drop k (part_at s base size) ≡ part_at s (base + k) (size - k)
part_drop s base size k h fits =
    let t = drop base s in
    let sum : size ≡ k + (size - k) = omega arith in
    let l : k ≤ length t = simp length-drop (omega arith) in
    ap (λ (n : ℕ). drop k (take n t)) sum
    ∙ ap (drop k) (take-add k (size - k) t)
    ∙ drop_at (take k t) (take (size - k) (drop k t)) k (length-take-le k t l)
    ∙ ap (take (size - k)) (drop-drop k base s)

-- each offset has four bytes
offset_nth : (n : ℕ) (l : List ℕ) (k d : ℕ) → k < n → get_or (offsets_of n l) k d ≡ offset_of (drop (4 * k) l)
unfolding offsets_of
offset_nth zero l k d h = absurd (omega arith)
offset_nth (suc n) l zero d h = refl
offset_nth (suc n) l (suc k) d h =
    let sum : 4 + 4 * k ≡ 4 * suc k = omega arith in
    offset_nth n (drop 4 l) k d (omega arith) ∙ ap offset_of (drop-drop (4 * k) 4 l ∙ ap (λ (m : ℕ). drop m l) sum)

pub offset_here : (l : List ℕ) (count i : ℕ) → i < count → offset_of (drop (4 * i) l) ≡ offset_at l count i
unfolding offset_at
offset_here l count i h = sym (offset_nth count l i (length l) h)

-- past the last offset stands the size
pub offset_end : (l : List ℕ) (count i : ℕ) → count ≤ i → length l ≡ offset_at l count i
unfolding offset_at
offset_end l count i h = sym (get_or-eq_default (offsets_of count l) (length l) (omega (arith, offsets_count count l)))

-- the order from a place on is the order of two offsets and the order of the rest
ordered_at : (end : ℕ) (os : List ℕ) (i : ℕ) → i < length os
    → ordered end (drop i os) ≡ (leb (get_or os i end) (get_or os (suc i) end) && ordered end (drop (suc i) os))
unfolding ordered
ordered_at end [] i h = absurd (omega arith)
ordered_at end (a ∷ []) zero h = sym (and-true (leb a end))
ordered_at end (a ∷ b ∷ os) zero h = refl
ordered_at end (a ∷ os) (suc i) h = ordered_at end os i (omega arith)

module _ (l : List ℕ) (count i : ℕ) where
  ordered_step : i < count → ordered (length l) (drop i (offsets_of count l))
      ≡ (leb (offset_at l count i) (offset_at l count (i + 1)) && ordered (length l) (drop (i + 1) (offsets_of count l)))
  unfolding offset_at
  ordered_step h = rw add-one (ordered_at (length l) (offsets_of count l) i (omega (arith, offsets_count count l)))

  offsets_end : count ≤ i → ordered (length l) (drop i (offsets_of count l)) ≡ true
  unfolding ordered
  offsets_end h = ap (ordered (length l)) (drop_of_length-le (offsets_of count l) {i = i} (omega (arith, offsets_count count l)))

-- a test of each pair tells the order
abbrev pub rises : List ℕ → ℕ → ℕ → Bool
rises l count i = leb (offset_at l count i) (offset_at l count (i + 1))

pub all_rise : (l : List ℕ) (count n i : ℕ) → i + n ≡ count → list_all (rises l count) (range_with_len i n) ≡ ordered (length l) (drop i (offsets_of count l))
all_rise l count zero i e = sym (offsets_end l count i (omega arith))
all_rise l count (suc n) i e =
    ap (λ (b : Bool). rises l count i && b) (all_rise l count n (i + 1) (omega arith)) ∙ sym (ordered_step l count i (omega arith))

-- in order, no offset is above the next
in_order_lem : (end : ℕ) (os : List ℕ) (i : ℕ) → ordered end os ≡ true → i < length os → get_or os i end ≤ get_or os (suc i) end
unfolding ordered
in_order_lem end [] i e h = absurd (omega arith)
in_order_lem end (a ∷ []) zero e h = leb-true a end e
in_order_lem end (a ∷ b ∷ os) zero e h = leb-true a b (both (leb a b) (ordered end (b ∷ os)) e).0
in_order_lem end (a ∷ []) (suc i) e h = absurd (omega arith)
in_order_lem end (a ∷ b ∷ os) (suc i) e h = in_order_lem end (b ∷ os) i (both (leb a b) (ordered end (b ∷ os)) e).1 (omega arith)

-- and none above the end
below_end : (end : ℕ) (os : List ℕ) (i : ℕ) → ordered end os ≡ true → get_or os i end ≤ end
unfolding ordered
below_end end [] i e = omega arith
below_end end (a ∷ []) zero e = leb-true a end e
below_end end (a ∷ []) (suc i) e = omega arith
below_end end (a ∷ b ∷ os) zero e =
    let p = both (leb a b) (ordered end (b ∷ os)) e in
    omega (arith, leb-true a b p.0, below_end end (b ∷ os) zero p.1)
below_end end (a ∷ b ∷ os) (suc i) e = below_end end (b ∷ os) i (both (leb a b) (ordered end (b ∷ os)) e).1

pub offsets_rise : (l : List ℕ) (count i : ℕ) → ordered (length l) (offsets_of count l) ≡ true → i < count
    → (offset_at l count i ≤ offset_at l count (i + 1)) × (offset_at l count (i + 1) ≤ length l)
unfolding offset_at
offsets_rise l count i e h =
    let os = offsets_of count l in
    (rw add-one (in_order_lem (length l) os i e (omega (arith, offsets_count count l))), below_end (length l) os (i + 1) e)
