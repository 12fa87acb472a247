-- What is said of a list of keys: a fact of each of them; nine bytes each.
use Rattle.std.specs.Prelude.{ℕ, ◌≡◌, List, [], ◌∷◌, length}
use Rattle.octets.specs.Bytes.{Bytes}

-- P of each key
abbrev pub Each : (List ℕ → Type 0) → List (List ℕ) → Type 0
Each P [] = Unit {0}
Each P (k ∷ ks) = P k × Each P ks

-- nine bytes
pub record NineBytes (k : List ℕ) : Type 0 where
  pub size : length k ≡ 9
  pub bytes : Bytes k
