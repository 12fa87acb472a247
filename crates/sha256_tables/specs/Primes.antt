-- Primes, by trial of every number below.
use Rattle.std.specs.Prelude.{ℕ, zero, suc, ◌-◌, ◌%◌, Bool, false, cond, not, ◌&&◌, ◌||◌, List, [], ◌∷◌, eqb, leb, take}
use Rattle.octets.specs.Table.{numbers_from}

-- one of the d numbers from 2 on divides n
unfoldable pub divided : ℕ → ℕ → Bool
divided zero n = false
divided (suc d) n = eqb (n % suc (suc d)) 0 || divided d n

-- at least 2, and divided by no number from 2 on below it
unfoldable pub prime : ℕ → Bool
prime n = leb 2 n && not (divided (n - 2) n)

-- the primes among some numbers
unfoldable pub primes_of : List ℕ → List ℕ
primes_of [] = []
primes_of (n ∷ ns) = cond (prime n) (n ∷ primes_of ns) (primes_of ns)

-- the first n primes, for n up to 64: the 64th is 311
unfoldable pub first_primes : ℕ → List ℕ
first_primes n = take n (primes_of (numbers_from 0 312))
