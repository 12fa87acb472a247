-- The n nearest of some keys, each counted once. "Some keys" is a predicate, so neither order nor repeats play a part.
use Rattle.std.specs.Prelude.{ℕ, ◌≤◌, ◌<◌, ◌≡◌, List, length}
use Rattle.nearest.specs.Sorted.{◌among◌, Sorted, distances}

module _ {K : Type 0} (dist : K → ℕ) where
  -- The list R is the n nearest of the keys P. Document 01: all of them if there are at most n, else the n with every other one farther
  -- than each of them. Keys at one distance count as one; where different keys have different distances, "its distance is in R" says
  -- that the key is in R.
  pub record Nearest (n : ℕ) (P : K → Type 0) (R : List K) : Type 0 where
    -- nearest first, each once
    pub sorted : Sorted dist R
    -- each is one of the keys
    pub chosen : (k : K) → k among R → P k
    -- at most n
    pub most : length R ≤ n
    -- all of the keys where R has fewer than n
    pub all : length R < n → (k : K) → P k → dist k among distances dist R
    -- every other key is farther than each of R
    pub others : (k : K) → P k → ¬ (dist k among distances dist R) → (j : K) → j among R → dist j < dist k

  -- each key of P has a key of Q at its distance
  abbrev pub Within : (K → Type 0) → (K → Type 0) → Type 0
  Within P Q = (k : K) → P k → (j : K) × Q j × (dist j ≡ dist k)
