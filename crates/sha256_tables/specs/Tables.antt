-- The two tables of words, by their rule.
use Rattle.std.specs.Prelude.{List, map, ℕ}
use Rattle.sha256_tables.specs.Primes.{first_primes}
use Rattle.sha256_tables.specs.Roots.{root_bits}

-- K of FIPS 180-4, section 4.2.2: of the cube roots of the first 64 primes
abbrev pub round_words : List ℕ
round_words = map (root_bits 3) (first_primes 64)

-- H(0) of section 5.3.3: of the square roots of the first eight primes
abbrev pub start_words : List ℕ
start_words = map (root_bits 2) (first_primes 8)
