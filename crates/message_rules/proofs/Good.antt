-- The test that places lie in the bytes, as a fact of each place; and what the tests of `good_records` come to. Assumes nothing.
use Prim.Native.Nat.{ℕ, zero, suc, ◌+◌, ◌-◌, ◌<◌, ◌≤◌}
use native.Mathlib.Omega.{arith}
use mathlib.Core.Path.{◌≡◌, refl, sym, ◌∙◌}
use mathlib.Core.Bool.{Bool, true, false, not, ◌&&◌, not-not}
use mathlib.Core.List.{List, [], ◌∷◌}
use lib.Dec.{leb, eqb}
use lib.ListN.{length, get_or, take}
use lib.Seq.{get_or-take, length-take-le}
use borrow.Author.Tests.{eq-eqb, le-leb, lt-leb, leb-true}
use Rattle.std.specs.List.{list_all, zip}
use Rattle.octets.proofs.Tests.{both}
use Rattle.message.specs.Rules.{same_bytes, all_different, good_records}
use Rattle.message.specs.Reading.{records_of_places, PlacesInside}
use Rattle.message.specs.declared.Places.{Places}
use Rattle.message_rules.specs.Good.{good_at, sizes_good, within, all_within}
use Rattle.message_rules.proofs.Lengths.{sizes_of}

-- each place lies in the bytes
pub within_each : (s starts lens : List ℕ) → length starts ≡ length lens
    → list_all (λ (place : ℕ × ℕ). within s place.0 place.1) (zip starts lens) ≡ true
    → (i : ℕ) → i < length starts → get_or starts i 0 + get_or lens i 0 ≤ length s
within_each s [] lens l e i h = absurd (omega arith)
within_each s (a ∷ as') [] l e i h = absurd (omega arith)
within_each s (a ∷ as') (n ∷ ns) l e zero h =
    let here = both (leb a (length s)) (leb n (length s - a)) (both (within s a n) _ e).0 in
    omega (arith, leb-true a (length s) here.0, leb-true n (length s - a) here.1)
within_each s (a ∷ as') (n ∷ ns) l e (suc i) h = within_each s as' ns (omega arith) (both (within s a n) _ e).1 i (omega arith)

-- where each does, the test of all places passes
pub each_within : (s starts lens : List ℕ) → length starts ≡ length lens
    → ((i : ℕ) → i < length starts → within s (get_or starts i 0) (get_or lens i 0) ≡ true)
    → list_all (λ (place : ℕ × ℕ). within s place.0 place.1) (zip starts lens) ≡ true
each_within s [] lens l each = refl
each_within s (a ∷ as') [] l each = absurd (omega arith)
each_within s (a ∷ as') (n ∷ ns) l each =
    rw (each 0 (omega arith), each_within s as' ns (omega arith) (λ i h. each (suc i) (omega arith)))

module _ (s : List ℕ) (places : Places) (starts_all : places.count ≤ length places.starts) (lens_all : places.count ≤ length places.lens) where
  -- where the first places pass the test, they lie in the bytes
  pub places_inside : places.count ≤ 32 → all_within s (take places.count places.starts) (take places.count places.lens) ≡ true → PlacesInside s places
  places_inside few e =
      let n = places.count in
      let a = length-take-le n places.starts starts_all in
      let b = length-take-le n places.lens lens_all in
      let t = both (eqb (length (take n places.starts)) (length (take n places.lens))) _ e in
      record {
        few = few;
        inside = λ i h.
            omega (
              arith,
              within_each s (take n places.starts) (take n places.lens) (omega arith) t.1 i (omega arith),
              get_or-take n places.starts i 0 h,
              get_or-take n places.lens i 0 h,
            );
      }

  -- then their own rules decide
  module _ (few : places.count ≤ 32) (e : all_within s (take places.count places.starts) (take places.count places.lens) ≡ true) where
    good_inside : good_at s places ≡ good_records (records_of_places s places)
    unfolding good_at
    good_inside = rw (le-leb places.count 32 few, e)

    tested : {sizes : Bool} → sizes ≡ sizes_good (take places.count places.lens)
        → good_at s places ≡ (sizes && all_different same_bytes (records_of_places s places))
    tested z = good_inside ∙ rw (z, sizes_of s places lens_all (places_inside few e))

    -- those are tested on the lengths
    pub good_sizes : {sizes : Bool} → sizes ≡ sizes_good (take places.count places.lens) → sizes ≡ false → sizes ≡ good_at s places
    good_sizes z f = f ∙ sym (tested z ∙ rw f)

    -- and on the pairs
    pub good_tested : {sizes equal : Bool} → sizes ≡ sizes_good (take places.count places.lens) → sizes ≡ true
        → equal ≡ not (all_different same_bytes (records_of_places s places)) → not equal ≡ good_at s places
    good_tested z f q = sym (tested z ∙ rw (f, q, not-not))

module _ (s : List ℕ) (places : Places) where
  -- more than 32 are not good
  pub good_many : 32 < places.count → false ≡ good_at s places
  unfolding good_at
  good_many h = rw (lt-leb places.count 32 h)

  -- nor are they with a place outside the bytes
  pub good_outside : places.count ≤ 32 → all_within s (take places.count places.starts) (take places.count places.lens) ≡ false → false ≡ good_at s places
  unfolding good_at
  good_outside few e = rw (le-leb places.count 32 few, e)

-- the first of some places that lie in the bytes pass the test
pub all_placed : (s starts lens : List ℕ) (n : ℕ) → n ≤ length starts → n ≤ length lens
    → ((i : ℕ) → i < n → get_or starts i 0 + get_or lens i 0 ≤ length s) → all_within s (take n starts) (take n lens) ≡ true
all_placed s starts lens n starts_all lens_all inside =
    rw (eq-eqb (length (take n starts)) (length (take n lens)) same)
    (each_within s (take n starts) (take n lens) same
    (λ i h.
    let less : i < n = omega (arith, long) in
    rw (get_or-take n starts i 0 less, get_or-take n lens i 0 less) (here _ _ (inside i less))))
  where
    long : length (take n starts) ≡ n
    long = length-take-le n starts starts_all

    same : length (take n starts) ≡ length (take n lens)
    same = long ∙ sym (length-take-le n lens lens_all)

    here : (a m : ℕ) → a + m ≤ length s → within s a m ≡ true
    here a m h = rw (le-leb a (length s) (omega arith), le-leb m (length s - a) (omega arith))

-- then the records' own rules decide
pub good_placed : (s : List ℕ) (places : Places) → places.count ≤ length places.starts → places.count ≤ length places.lens → PlacesInside s places
    → good_at s places ≡ good_records (records_of_places s places)
unfolding good_at
good_placed s places starts_all lens_all p =
    rw (le-leb places.count 32 p.few, all_placed s places.starts places.lens places.count starts_all lens_all p.inside)
