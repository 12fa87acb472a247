-- The log distance as document 01 had it, before document 02's request 2. Nothing is computed by it: a law compares the two.
use Rattle.std.specs.Prelude.{ℕ, zero, suc, ◌^◌, cond, List, leb}
use Rattle.distance.specs.Distance.{distance_of}

-- the largest number below w whose power of two is at most n, and 0 where there is none: for n below 2 ^ w the base-two
-- logarithm rounded down, and 0 for 0
unfoldable pub log_below : ℕ → ℕ → ℕ
log_below zero n = 0
log_below (suc k) n = cond (leb (2 ^ k) n) k (log_below k n)

-- the base-two logarithm of the distance, rounded down, and 0 for equal ids
abbrev pub log_before : List ℕ → List ℕ → ℕ
log_before a b = log_below 256 (distance_of a b)
