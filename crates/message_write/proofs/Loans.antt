-- Records that are lent: `lent` goes from the front and the tests go place by place, and both say the same; the places in arrays are the same
-- places; and what each answer of `lent_records` says. Assumes nothing.
use Prim.Native.Nat.{ℕ, zero, suc, ◌+◌, ◌-◌, ◌<◌, ◌≤◌}
use native.Mathlib.Omega.{arith}
use mathlib.Core.Path.{◌≡◌, refl, sym, ap, ap₂, subst, ◌∙◌}
use mathlib.Core.Bool.{Bool, true, false, cond, ◌&&◌}
use mathlib.Core.List.{List, [], ◌∷◌, ◌++◌}
use mathlib.Core.Option.{Option, some, none}
use lib.Dec.{eqb, leb}
use lib.ListN.{length, get_or, take, drop, replicate}
use lib.Seq.{length-take-le, get_or-take}
use borrow.Author.Tests.{eq-eqb, ne_eqb, eqb-true, eqb-false, le-leb, lt-leb, leb-true}
use Rattle.std.specs.Prelude.{Ok, Err}
use Rattle.std.specs.List.{list_all, zip}
use Rattle.refusal.specs.Says.{says_of}
use Rattle.refusal.specs.Outcome.{given, refusal, refused}
use Rattle.refusal.specs.declared.Refusal.{Refusal}
use Rattle.refusal.specs.declared.Refusal.TheVariants.{Layout, TooManyItems, ItemRule}
use Rattle.octets.specs.Bytes.{Bytes}
use Rattle.octets.proofs.Numbers.{bytes_take, bytes_drop}
use Rattle.octets.proofs.Tests.{both}
use Rattle.message.specs.Values.{AllBytes}
use Rattle.message.specs.Rules.{all_different, same_bytes, record_sizes, good_records}
use Rattle.message.specs.Decode.{map_some}
use Rattle.message.specs.Reading.{part_at, records_at, records_of_places, PlacesInside}
use Rattle.message.specs.Report.{in32}
use Rattle.message.specs.declared.Places.{Places}
use Rattle.message.proofs.Tests.{passed}
use Rattle.message_rules.specs.Good.{within, good_at, all_within, judged}
use Rattle.message_rules.proofs.Places.{in32_length, in32_at, part_length, records_length, record_at_lem}
use Rattle.message_rules.proofs.Good.{within_each, all_placed, good_placed}
use Rattle.message_write.specs.Lent.{lent, Small, Lendable, LentTo}

-- the first place and the others
records_front : (s : List ℕ) (a n : ℕ) (starts lens : List ℕ) (k : ℕ)
    → records_at s (a ∷ starts) (n ∷ lens) (suc k) ≡ part_at s a n ∷ records_at s starts lens k
unfolding records_at
records_front s a n starts lens zero = refl
records_front s a n starts lens (suc k) =
    ap (λ (l : List (List ℕ)). l ++ (part_at s (get_or starts k 0) (get_or lens k 0) ∷ [])) (records_front s a n starts lens k)

pub lent_more : (s : List ℕ) (a n : ℕ) (starts lens : List ℕ) (w : Bool) → within s a n ≡ w
    → (o : Option (List (List ℕ))) → lent s starts lens ≡ o
    → lent s (a ∷ starts) (n ∷ lens) ≡ cond w (map_some (λ (rs : List (List ℕ)). part_at s a n ∷ rs) o) none
unfolding lent
lent_more s a n starts lens true e none f = rw (e, f)
lent_more s a n starts lens true e (some rs) f = rw (e, f)
lent_more s a n starts lens false e o f = rw e

-- one more on both sides
eqb_suc : (m n : ℕ) → eqb (suc m) (suc n) ≡ eqb m n
eqb_suc m n = go (eqb m n) refl
  where
    go : (t : Bool) → eqb m n ≡ t → eqb (suc m) (suc n) ≡ eqb m n
    go true e =
        let q = eqb-true m n e in
        eq-eqb (suc m) (suc n) (omega arith) ∙ sym e
    go false e = ne_eqb (suc m) (suc n) (λ q. eqb-false m n e (omega arith)) ∙ sym e

tests : (w e i : Bool) (f : List (List ℕ) → List (List ℕ)) (rs : List (List ℕ))
    → cond w (map_some f (cond (e && i) (some rs) none)) none ≡ cond (e && (w && i)) (some (f rs)) none
tests true true true f rs = refl
tests true true false f rs = refl
tests true false i f rs = refl
tests false true i f rs = refl
tests false false i f rs = refl

-- the records that are lent, by the test on all places
lent_all : (s starts lens : List ℕ) → lent s starts lens ≡ cond (all_within s starts lens) (some (records_at s starts lens (length starts))) none
unfolding lent records_at
lent_all s [] [] = refl
lent_all s [] (n ∷ lens) = rw (ne_eqb 0 (suc (length lens)) (λ e. omega arith))
lent_all s (a ∷ starts) [] = rw (ne_eqb (suc (length starts)) 0 (λ e. omega arith))
lent_all s (a ∷ starts) (n ∷ lens) =
    let k = length starts in
    let e = eqb k (length lens) in
    let i = list_all (λ (place : ℕ × ℕ). within s place.0 place.1) (zip starts lens) in
    lent_more s a n starts lens (within s a n) refl _ (lent_all s starts lens)
    ∙ tests (within s a n) e i (λ (rs : List (List ℕ)). part_at s a n ∷ rs) (records_at s starts lens k)
    ∙ sym (ap₂ (λ (b : Bool) (rs : List (List ℕ)). cond b (some rs) none)
    (ap (λ (x : Bool). x && (within s a n && i)) (eqb_suc k (length lens)))
    (records_front s a n starts lens k))

-- records lent from bytes are bytes
snoc_bytes : (rs : List (List ℕ)) (r : List ℕ) → AllBytes rs → Bytes r → AllBytes (rs ++ (r ∷ []))
snoc_bytes [] r b c = (c, tt)
snoc_bytes (q ∷ rs) r b c = (b.0, snoc_bytes rs r b.1 c)

records_bytes : (s starts lens : List ℕ) → Bytes s → (k : ℕ) → AllBytes (records_at s starts lens k)
unfolding records_at
records_bytes s starts lens b zero = tt
records_bytes s starts lens b (suc k) =
    let a = get_or starts k 0 in
    let n = get_or lens k 0 in
    snoc_bytes (records_at s starts lens k) (part_at s a n) (records_bytes s starts lens b k) (bytes_take n (drop a s) (bytes_drop a s b))

pub lent_bytes : (s starts lens : List ℕ) → Bytes s → (rs : List (List ℕ)) → lent s starts lens ≡ some rs → AllBytes rs
lent_bytes s starts lens b rs e =
    subst AllBytes
    (passed (all_within s starts lens) (sym (lent_all s starts lens) ∙ e)).1
    (records_bytes s starts lens b (length starts))

-- the same places have the same records
records_same : (s as' ns bs ms : List ℕ) (k : ℕ) → ((i : ℕ) → i < k → get_or as' i 0 ≡ get_or bs i 0) → ((i : ℕ) → i < k → get_or ns i 0 ≡ get_or ms i 0)
    → records_at s as' ns k ≡ records_at s bs ms k
unfolding records_at
records_same s as' ns bs ms zero e f = refl
records_same s as' ns bs ms (suc k) e f =
    ap₂ (λ (rs : List (List ℕ)) (r : List ℕ). rs ++ (r ∷ []))
    (records_same s as' ns bs ms k (λ i h. e i (omega arith)) (λ i h. f i (omega arith)))
    (ap₂ (part_at s) (e k (omega arith)) (f k (omega arith)))

-- the first places of arrays, lent
pub lent_first : (s starts lens : List ℕ) (n : ℕ) → n ≤ length starts → n ≤ length lens
    → ((i : ℕ) → i < n → get_or starts i 0 + get_or lens i 0 ≤ length s)
    → lent s (take n starts) (take n lens) ≡ some (records_at s starts lens n)
lent_first s starts lens n h g inside =
    lent_all s (take n starts) (take n lens)
    ∙ ap (λ (b : Bool). cond b (some (records_at s (take n starts) (take n lens) (length (take n starts)))) none) (all_placed s starts lens n h g inside)
    ∙ rw (length-take-le n starts h)
    (ap some (records_same s (take n starts) (take n lens) starts lens n (λ i less. get_or-take n starts i 0 less) (λ i less. get_or-take n lens i 0 less)))

-- the records at places in an array
records_in32 : (s starts lens : List ℕ) (k : ℕ) → k ≤ length starts → k ≤ length lens
    → records_at s (in32 starts) (in32 lens) k ≡ records_at s starts lens k
records_in32 s starts lens k h g =
    records_same s (in32 starts) (in32 lens) starts lens k
    (λ i less. in32_at starts i (omega arith)) (λ i less. in32_at lens i (omega arith))

-- zeros behind some of them
pub zeros_behind : (n m : ℕ) → drop {A = ℕ} n (replicate m 0) ≡ replicate (m - n) 0
zeros_behind zero m = let e : m - 0 ≡ m = omega arith in rw e
zeros_behind (suc n) zero = let e : 0 - suc n ≡ 0 = omega arith in rw e
zeros_behind (suc n) (suc m) = let e : suc m - suc n ≡ m - n = omega arith in rw e (zeros_behind n m)

-- records whose sizes are good have at most 300 bytes each
size_at : (rs : List (List ℕ)) → record_sizes rs ≡ true → (i : ℕ) → i < length rs → length (get_or rs i []) ≤ 300
unfolding record_sizes
size_at [] e i h = absurd (omega arith)
size_at (r ∷ rs) e zero h =
    leb-true (length r) 300 (both (leb 1 (length r)) (leb (length r) 300) (both (leb 1 (length r) && leb (length r) 300) (record_sizes rs) e).0).1
size_at (r ∷ rs) e (suc i) h = size_at rs (both (leb 1 (length r) && leb (length r) 300) (record_sizes rs) e).1 i (omega arith)

good_small : (s : List ℕ) (p : Places) → PlacesInside s p → good_records (records_of_places s p) ≡ true → Small p
good_small s p k e =
    record {
      few = k.few;
      each = λ i h.
          let n = records_length s p.starts p.lens p.count in
          omega (
            arith,
            size_at (records_of_places s p) (both (record_sizes (records_of_places s p)) (all_different same_bytes (records_of_places s p)) e).0 i (omega arith),
            ap length (record_at_lem s p.starts p.lens p.count i h),
            part_length s (get_or p.starts i 0) (get_or p.lens i 0) (k.inside i h),
          );
    }

module _ (s starts lens : List ℕ) where
  -- a refusal
  refused_to : (why : Refusal) → judged (lent s starts lens) ≡ refusal (says_of why) → LentTo s starts lens (Err why)
  refused_to why e = record { value = sym e; places = λ p q. cc }

  -- a place is not within the bytes, or starts and lengths differ in number
  pub lent_layout : all_within s starts lens ≡ false → LentTo s starts lens (Err Layout)
  lent_layout e =
      let no : lent s starts lens ≡ none = lent_all s starts lens ∙ rw e in
      refused_to Layout (ap judged no)

  module _ (all : all_within s starts lens ≡ true) where
    lent_some : lent s starts lens ≡ some (records_at s starts lens (length starts))
    lent_some = lent_all s starts lens ∙ rw all

    pub lent_even : length starts ≡ length lens
    lent_even = eqb-true (length starts) (length lens) (both (eqb (length starts) (length lens)) _ all).0

    -- more than 32
    pub lent_many : 32 < length starts → LentTo s starts lens (Err TooManyItems)
    lent_many h =
        refused_to TooManyItems (ap judged lent_some ∙ rw (records_length s starts lens (length starts), lt-leb (length starts) 32 h))

    module _ (few : length starts ≤ 32) (p : Places) (many : p.count ≡ length starts) (bs : p.starts ≡ in32 starts) (ls : p.lens ≡ in32 lens) where
      same_records : records_of_places s p ≡ records_at s starts lens (length starts)
      same_records =
          ap (records_at s p.starts p.lens) many
          ∙ ap₂ (λ (x y : List ℕ). records_at s x y (length starts)) bs ls
          ∙ records_in32 s starts lens (length starts) (omega arith) (omega (arith, lent_even))

      in_bytes : PlacesInside s p
      in_bytes =
          record {
            few = omega arith;
            inside = λ i h.
                omega (
                  arith,
                  within_each s starts lens lent_even (both (eqb (length starts) (length lens)) _ all).1 i (omega arith),
                  ap (λ (x : List ℕ). get_or x i 0) bs,
                  in32_at starts i (omega arith),
                  ap (λ (x : List ℕ). get_or x i 0) ls,
                  in32_at lens i (omega (arith, lent_even)),
                );
          }

      tested : good_at s p ≡ good_records (records_of_places s p)
      tested =
          good_placed s p (omega (arith, ap length bs, in32_length starts few)) (omega (arith, ap length ls, in32_length lens (omega (arith, lent_even)))) in_bytes

      told : judged (lent s starts lens) ≡ cond (good_at s p) (given (records_of_places s p)) (refusal (says_of ItemRule))
      told =
          ap judged (lent_some ∙ ap some (sym same_records))
          ∙ ap (λ (n : ℕ). cond (leb n 32) (cond (good_records (records_of_places s p)) (given (records_of_places s p)) (refused 6)) (refused 5))
          (records_length s p.starts p.lens p.count ∙ many)
          ∙ rw (le-leb (length starts) 32 few, tested)

      -- a rule is broken
      pub lent_bad : good_at s p ≡ false → LentTo s starts lens (Err ItemRule)
      lent_bad e = refused_to ItemRule (told ∙ rw e)

      -- all is good
      pub lent_good : good_at s p ≡ true → LentTo s starts lens (Ok p)
      lent_good e =
          record {
            value = sym (told ∙ rw e);
            places = λ q w.
                let same : p ≡ q = cc in
                subst (Lendable s) same (record { small = good_small s p in_bytes (sym tested ∙ e); inside = in_bytes });
          }
