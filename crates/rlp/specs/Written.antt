-- Acceptable content by what RLP writes: the header of a payload's length, and the payload.
use Rattle.std.specs.Prelude.{ℕ, zero, suc, ◌+◌, ◌/◌, ◌%◌, ◌^◌, ◌<◌, cond, ◌⊎◌, ◌≡◌, List, [], ◌∷◌, ◌++◌, eqb, leb, length, take, drop}
use Rattle.octets.specs.Bytes.{Bytes}
use Rattle.rlp.specs.declared.Payload.{Payload}

-- the bytes of n, heaviest first, with no leading zero: the fewest that hold it, where n is below 256 ^ most
unfoldable pub fewest : ℕ → ℕ → List ℕ
fewest zero n = []
fewest (suc most) n = cond (eqb n 0) [] (fewest most (n / 256) ++ (n % 256 ∷ []))

-- what RLP writes before a list's payload of n bytes, n below 2 ^ 64: the byte 192 + n for at most 55, else 247 + k and the k bytes of n
unfoldable pub header_of : ℕ → List ℕ
header_of n = cond (leb n 55) ((192 + n) ∷ []) ((247 + length (fewest 8 n)) ∷ fewest 8 n)

-- the bytes at a place
abbrev pub payload_in : List ℕ → Payload → List ℕ
payload_in s p = take p.len (drop p.start s)

-- s is the header of a payload's length and then that payload, which stands at the place p
pub record Placed (s : List ℕ) (p : Payload) : Type 0 where
  pub whole : s ≡ header_of p.len ++ payload_in s p
  pub len : length (payload_in s p) ≡ p.len
  pub start : length (header_of p.len) ≡ p.start
  pub small : p.len < 2 ^ 64

-- s is what RLP writes for a list
abbrev pub Acceptable : List ℕ → Type 0
Acceptable s = (p : Payload) × Placed s p

-- some bytes more would make it so
abbrev pub Completes : List ℕ → Type 0
Completes s = (more : List ℕ) × Bytes more × Acceptable (s ++ more)

-- content ends early: it is not empty, not acceptable, and some bytes more would make it acceptable
pub record EndsEarly (s : List ℕ) : Type 0 where
  pub some : ¬ (s ≡ [])
  pub not : ¬ Acceptable s
  pub more : Completes s

-- content is wrong: it is not acceptable, and empty or such that no bytes more would make it acceptable
pub record IsWrong (s : List ℕ) : Type 0 where
  pub not : ¬ Acceptable s
  pub never : (s ≡ []) ⊎ (¬ Completes s)
