-- Sums of the lengths of records. Assumes nothing.
use Prim.Native.Nat.{ℕ, zero, suc, ◌+◌, ◌*◌, ◌<◌, ◌≤◌}
use native.Mathlib.Numerals.{add-one}
use native.Mathlib.Decide.{dec_le}
use native.Mathlib.Omega.{arith}
use mathlib.Core.Path.{◌≡◌, refl, ap, ◌∙◌}
use mathlib.Core.List.{List}
use lib.ListN.{length, get_or, take}
use Rattle.std.specs.List.{sum}
use Rattle.std.proofs.lemmas.List.Sums.{sum_by_more}
use Rattle.message.specs.declared.Places.{Places}
use Rattle.message_write.specs.Lent.{Small}
use Rattle.message_write.specs.Parts.{sum_to}

-- one length more
pub sum_more : (lens : List ℕ) (i : ℕ) → sum_to lens (i + 1) ≡ sum_to lens i + get_or lens i 0
unfolding sum_to
sum_more lens i = rw add-one

pub sum_none : (lens : List ℕ) → sum_to lens 0 ≡ 0
unfolding sum_to
sum_none lens = refl

-- more lengths have no smaller sum
pub sum_rise : (lens : List ℕ) (i n : ℕ) → i ≤ n → sum_to lens i ≤ sum_to lens n
unfolding sum_to
sum_rise lens i zero h = let z : i ≡ 0 = omega arith in rw z (omega arith)
sum_rise lens i (suc n) h = go (sum_rise lens i n) (dec_le i n)
  where
    go : (i ≤ n → sum_to lens i ≤ sum_to lens n) → Dec (i ≤ n) → sum_to lens i ≤ sum_to lens (suc n)
    go before (yes e) = omega (arith, before e)
    go before (no ne) = let same : i ≡ suc n = omega arith in rw same (omega arith)

-- the sum of some lengths is that of the first ones
pub sum_first : (lens : List ℕ) (n : ℕ) → n ≤ length lens → sum (take n lens) ≡ sum_to lens n
unfolding sum_to
sum_first lens zero h = refl
sum_first lens (suc n) h =
    let more : sum (take (n + 1) lens) ≡ sum (take n lens) + get_or lens n 0 = sum_by_more (λ (x : ℕ). x) lens n 0 (omega arith) in
    rw add-one at more ∙ ap (λ (k : ℕ). k + get_or lens n 0) (sum_first lens n (omega arith))

-- small records have no large sum
sum_bound : (lens : List ℕ) (n : ℕ) → ((i : ℕ) → i < n → get_or lens i 0 ≤ 300) → sum_to lens n ≤ 300 * n
unfolding sum_to
sum_bound lens zero each = omega arith
sum_bound lens (suc n) each = omega (arith, each n (omega arith), sum_bound lens n (λ i h. each i (omega arith)))

pub sum_small : (places : Places) → Small places → sum_to places.lens places.count ≤ 9600
sum_small places s = omega (arith, s.few, sum_bound places.lens places.count s.each)
