-- Tables: how many entries, and the rule at each place. A table of the code that computes to `table_of f n` has its rule by `entry_at`.
-- Assumes nothing.
use Prim.Native.Nat.{ℕ, zero, suc, ◌+◌, ◌<◌}
use native.Mathlib.Nat.{zero-add}
use native.Mathlib.Omega.{arith}
use mathlib.Core.Path.{◌≡◌, refl, ap, ap₂, ◌∙◌}
use mathlib.Core.List.{List, [], ◌∷◌, map}
use lib.ListN.{length, get_or, length-map, get_or-map}
use Rattle.octets.specs.Bytes.{Bytes}
use Rattle.octets.specs.Table.{numbers_from, table_of}

number_at : (i n k : ℕ) → k < n → get_or (numbers_from i n) k 0 ≡ i + k
unfolding numbers_from
number_at i zero k h = absurd (omega arith)
number_at i (suc n) zero h = omega arith
number_at i (suc n) (suc k) h = number_at (suc i) n k (omega arith) ∙ omega arith

numbers_length : (i n : ℕ) → length (numbers_from i n) ≡ n
unfolding numbers_from
numbers_length i zero = refl
numbers_length i (suc n) = ap suc (numbers_length (suc i) n)

module _ (f : ℕ → ℕ) (n : ℕ) where
  pub table_length : length (table_of f n) ≡ n
  table_length = length-map (numbers_from 0 n) f ∙ numbers_length 0 n

  -- the entry at place k is what f gives for k
  pub entry_at : (k : ℕ) → k < n → get_or (table_of f n) k (f 0) ≡ f k
  entry_at k h = get_or-map f (numbers_from 0 n) k 0 ∙ ap f (number_at 0 n k h ∙ zero-add k)

-- bytes, each looked up in a table of 256 entries
pub bytes_through : (f : ℕ → ℕ) (xs : List ℕ) → Bytes xs → map (λ (k : ℕ). get_or (table_of f 256) k (f 0)) xs ≡ map f xs
bytes_through f [] h = refl
bytes_through f (x ∷ xs) h = ap₂ (λ (y : ℕ) (ys : List ℕ). y ∷ ys) (entry_at f 256 x h.0) (bytes_through f xs h.1)
