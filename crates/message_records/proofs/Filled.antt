-- The places that are filled in, one array cell after the other, are those by the offsets, and hold the records between the offsets. Lists are
-- compared element by element. Assumes nothing.
use Prim.Native.Nat.{ℕ, zero, suc, ◌+◌, ◌-◌, ◌<◌, ◌≤◌}
use native.Mathlib.Numerals.{add-one}
use native.Mathlib.Omega.{arith}
use mathlib.Core.Path.{◌≡◌, refl, sym, ap, ap₂, ◌∙◌}
use mathlib.Core.Bool.{true}
use mathlib.Core.List.{List, [], ◌∷◌, ◌++◌, map}
use lib.ListN.{length, get_or, take, drop, set, replicate, length-drop, length-map, length-set, take-append-drop}
use lib.Seq.{drop-drop, drop-set-lt, get_or-set_same, get_or-set_other, get_or-take, ext_get_or, length-take-le, take_all, take-take}
use borrow.Author.Count.{below_more}
use Rattle.message.specs.Records.{offsets_of, ordered, between}
use Rattle.message.proofs.Reports.{gaps_length}
use Rattle.message.specs.Report.{in32, gaps, starts_of, lens_of, places_at}
use Rattle.message.specs.Reading.{part_at, records_of_places, PlacesInside}
use Rattle.message.specs.declared.Places.{Places}
use Rattle.message.proofs.Records.{between_length, offsets_count}
use Rattle.message_rules.proofs.Places.{records_length, record_at_lem, in32_at}
use Rattle.message_records.specs.Places.{offset_at}
use Rattle.message_records.proofs.Offsets.{part_drop, offsets_rise}

-- the first i of 32 cells hold a function's values, the others zeros
pub record Filled (f : ℕ → ℕ) (i : ℕ) (a : List ℕ) : Type 0 where
  pub all : length a ≡ 32
  pub used : (k : ℕ) → k < i → get_or a k 0 ≡ f k
  pub rest : drop i a ≡ replicate (32 - i) 0

pub filled_more : (f : ℕ → ℕ) (i : ℕ) (a : List ℕ) → i < 32 → Filled f i a → (v : ℕ) → v ≡ f i → Filled f (i + 1) (set a i v)
filled_more f i a h w v is =
    record {
      all = length-set a i v ∙ w.all;
      used = below_more (λ (k : ℕ). get_or (set a i v) k 0 ≡ f k) i
          (λ k less. get_or-set_other a i k v 0 (λ same. omega arith) ∙ w.used k less)
          (get_or-set_same a i v 0 (omega (arith, w.all)) ∙ is);
      rest = drop-set-lt (i + 1) a i v (omega arith)
          ∙ sym (drop-drop 1 i a)
          ∙ ap (drop 1) (w.rest ∙ ap (λ (n : ℕ). replicate n 0) more);
    }
  where
    more : 32 - i ≡ suc (32 - (i + 1))
    more = omega arith

-- cells that are filled from a list are that list in 32 places
filled_is : (f : ℕ → ℕ) (n : ℕ) (a ns : List ℕ) → Filled f n a → n ≤ 32 → length ns ≡ n → ((k : ℕ) → k < n → f k ≡ get_or ns k 0) → a ≡ in32 ns
filled_is f n a ns w few is same =
    sym (take-append-drop n a)
    ∙ ap₂ (λ (x y : List ℕ). x ++ y)
    (ext_get_or 0 (take n a) ns (front ∙ sym is)
    (λ k h.
    let less : k < n = omega (arith, front) in
    get_or-take n a k 0 less ∙ w.used k less ∙ same k less))
    (w.rest ∙ ap (λ (m : ℕ). replicate (32 - m) 0) (sym is))
  where
    front : length (take n a) ≡ n
    front = length-take-le n a (omega (arith, w.all))

-- each record goes from its offset up to the next, the last one up to the list's end
between_at : (l os : List ℕ) (end k : ℕ) → length l ≡ end → k < length os
    → get_or (between l os) k [] ≡ take (get_or os (suc k) end - get_or os k end) (drop (get_or os k end) l)
unfolding between
between_at l [] end k is h = absurd (omega arith)
between_at l (a ∷ []) end zero is h = sym (take_all (end - a) (drop a l) (simp length-drop (omega arith)))
between_at l (a ∷ []) end (suc k) is h = absurd (omega arith)
between_at l (a ∷ b ∷ os) end zero is h = refl
between_at l (a ∷ b ∷ os) end (suc k) is h = between_at l (b ∷ os) end k is (omega arith)

-- each offset is moved by the base
map_at : (base : ℕ) (os : List ℕ) (end k : ℕ) → k < length os → get_or (map (λ (o : ℕ). base + o) os) k 0 ≡ base + get_or os k end
map_at base [] end k h = absurd (omega arith)
map_at base (o ∷ os) end zero h = refl
map_at base (o ∷ os) end (suc k) h = map_at base os end k (omega arith)

-- each length is a difference of two offsets, the last one up to the end
gaps_at : (end : ℕ) (os : List ℕ) (k : ℕ) → k < length os → get_or (gaps end os) k 0 ≡ get_or os (suc k) end - get_or os k end
unfolding gaps
gaps_at end [] k h = absurd (omega arith)
gaps_at end (a ∷ []) zero h = refl
gaps_at end (a ∷ []) (suc k) h = absurd (omega arith)
gaps_at end (a ∷ b ∷ os) zero h = refl
gaps_at end (a ∷ b ∷ os) (suc k) h = gaps_at end (b ∷ os) k (omega arith)

-- where a record of the list at a base starts in the message, and its length
abbrev pub start_of : List ℕ → ℕ → ℕ → ℕ → ℕ
start_of l base count k = base + offset_at l count k

abbrev pub len_of : List ℕ → ℕ → ℕ → ℕ
len_of l count k = offset_at l count (k + 1) - offset_at l count k

module _ (l : List ℕ) (base count : ℕ) (few : count ≤ 32) where
  abbrev os : List ℕ
  os = offsets_of count l

  many : length os ≡ count
  many = offsets_count count l

  start_is : (k : ℕ) → k < count → start_of l base count k ≡ get_or (map (λ (o : ℕ). base + o) os) k 0
  unfolding offset_at
  start_is k h = sym (map_at base os (length l) k (omega (arith, many)))

  len_is : (k : ℕ) → k < count → len_of l count k ≡ get_or (gaps (length l) os) k 0
  unfolding offset_at
  len_is k h = rw add-one (sym (gaps_at (length l) os k (omega (arith, many))))

  -- two arrays that are filled so are the places by the offsets
  pub placed : (starts lens : List ℕ) (i : ℕ) → i ≡ count → Filled (start_of l base count) i starts → Filled (len_of l count) i lens
      → record { count = count; starts = starts; lens = lens } ≡ places_at base (length l) os
  unfolding starts_of lens_of
  placed starts lens i is fs fl =
      let moved = map (λ (o : ℕ). base + o) os in
      let a : starts ≡ in32 moved =
      filled_is (start_of l base count) count starts moved (rw is at fs) few (length-map os (λ (o : ℕ). base + o) ∙ many) start_is in
      let b : lens ≡ in32 (gaps (length l) os) =
      filled_is (len_of l count) count lens (gaps (length l) os) (rw is at fl) few (gaps_length (length l) os ∙ many) len_is in
      cc many

  start_at : (k : ℕ) → k < count → get_or (starts_of base os) k 0 ≡ start_of l base count k
  unfolding starts_of
  start_at k h = in32_at (map (λ (o : ℕ). base + o) os) k (omega (arith, many, length-map os (λ (o : ℕ). base + o))) ∙ sym (start_is k h)

  len_at : (k : ℕ) → k < count → get_or (lens_of (length l) os) k 0 ≡ len_of l count k
  unfolding lens_of
  len_at k h = in32_at (gaps (length l) os) k (omega (arith, many, gaps_length (length l) os)) ∙ sym (len_is k h)

  -- where the list is a part of some bytes
  module _ (s : List ℕ) (is : l ≡ part_at s base (length l)) (fits : base + length l ≤ length s) (order : ordered (length l) os ≡ true) where
    abbrev there : Places
    there = places_at base (length l) os

    -- they lie in the bytes
    pub places_in_lem : PlacesInside s there
    places_in_lem =
        record {
          few = omega (arith, many);
          inside = λ k h.
              let less : k < count = omega (arith, many) in
              omega (arith, start_at k less, len_at k less, offsets_rise l count k order less);
        }

    -- a record between the offsets is the part at its place
    between_part : (k : ℕ) → k < count → get_or (between l os) k [] ≡ part_at s (start_of l base count k) (len_of l count k)
    unfolding offset_at
    between_part k h =
        let o = get_or os k (length l) in
        let n = get_or os (k + 1) (length l) - o in
        let rise = offsets_rise l count k order h in
        between_at l os (length l) k refl (omega (arith, many))
        ∙ ap (λ (q : ℕ). take (get_or os q (length l) - o) (drop o l)) (sym (add-one k))
        ∙ ap (take n) (ap (drop o) is ∙ part_drop s base (length l) o (omega arith) fits)
        ∙ take-take n (length l - o) (drop (base + o) s) (omega arith)

    -- and hold the records between the offsets
    pub places_hold : records_of_places s there ≡ between l os
    places_hold =
        let all = records_length s there.starts there.lens there.count in
        ext_get_or [] (records_of_places s there) (between l os)
        (all ∙ sym (between_length l os))
        (λ k h.
        let less : k < count = omega (arith, all, many) in
        record_at_lem s there.starts there.lens there.count k (omega (arith, all))
        ∙ ap₂ (part_at s) (start_at k less) (len_at k less)
        ∙ sym (between_part k less))
