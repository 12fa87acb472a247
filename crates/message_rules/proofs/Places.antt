-- The records at some places: how many they are, which one stands where, and how long a part is. Assumes nothing.
use Prim.Native.Nat.{ℕ, zero, suc, ◌+◌, ◌-◌, ◌<◌, ◌≤◌}
use native.Mathlib.Decide.{ℕ_discrete}
use native.Mathlib.Omega.{arith}
use mathlib.Core.Path.{◌≡◌, refl, ap, ◌∙◌}
use mathlib.Core.List.{List, [], ◌∷◌, ◌++◌}
use lib.ListN.{length, get_or, take, drop, replicate, length-append, length-replicate, length-take, length-drop, get_or-append}
use lib.Seq.{get_or_at}
use Rattle.message.specs.Reading.{part_at, records_at}
use Rattle.message.specs.Report.{in32}

-- a part that lies in a list has its length
pub part_length : (s : List ℕ) (base size : ℕ) → base + size ≤ length s → length (part_at s base size) ≡ size
part_length s base size fits = simp (length-take, length-drop) (omega arith)

-- a part as code takes it, by its start and its end
abbrev pub between : List ℕ → ℕ → ℕ → List ℕ
between s start size = take (start + size - start) (drop start s)

pub part_between : (s : List ℕ) (start size : ℕ) → between s start size ≡ part_at s start size
part_between s start size =
    let n : start + size - start ≡ size = omega arith in
    ap (λ (k : ℕ). take k (drop start s)) n

-- numbers in 32 places are 32, and start with the numbers
pub in32_length : (ns : List ℕ) → length ns ≤ 32 → length (in32 ns) ≡ 32
in32_length ns h = omega (arith, length-append ns (replicate (32 - length ns) 0), length-replicate {A = ℕ} (32 - length ns) 0)

pub in32_at : (ns : List ℕ) (k : ℕ) → k < length ns → get_or (in32 ns) k 0 ≡ get_or ns k 0
in32_at ns k h = get_or-append ns (replicate (32 - length ns) 0) 0 k h

-- as many records as places
pub records_length : (s starts lens : List ℕ) (n : ℕ) → length (records_at s starts lens n) ≡ n
unfolding records_at
records_length s starts lens zero = refl
records_length s starts lens (suc n) =
    let here = part_at s (get_or starts n 0) (get_or lens n 0) in
    omega (arith, length-append (records_at s starts lens n) (here ∷ []), records_length s starts lens n)

-- each record is the part at its place
pub record_at_lem : (s starts lens : List ℕ) (n k : ℕ) → k < n
    → get_or (records_at s starts lens n) k [] ≡ part_at s (get_or starts k 0) (get_or lens k 0)
unfolding records_at
record_at_lem s starts lens zero k h = absurd (omega arith)
record_at_lem s starts lens (suc n) k h = go (record_at_lem s starts lens n k) (ℕ_discrete k n)
  where
    front : List (List ℕ)
    front = records_at s starts lens n

    many : length front ≡ n
    many = records_length s starts lens n

    last : List ℕ
    last = part_at s (get_or starts n 0) (get_or lens n 0)

    go : (k < n → get_or front k [] ≡ part_at s (get_or starts k 0) (get_or lens k 0)) → Dec (k ≡ n)
        → get_or (front ++ (last ∷ [])) k [] ≡ part_at s (get_or starts k 0) (get_or lens k 0)
    go before (yes e) = rw e (get_or_at front last [] [] n many)
    go before (no ne) =
        let less : k < n = omega arith in
        get_or-append front (last ∷ []) [] k (omega (arith, many)) ∙ before less
