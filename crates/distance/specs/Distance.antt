-- Distance between 32-byte values, by document 01: the exclusive or, read as one number with the first byte heaviest. The log distance, by
-- document 02, and what a FindNode asks for.
use Rattle.std.specs.Prelude.{ℕ, zero, suc, ◌^◌, Bool, cond, ◌&&◌, List, [], ◌∷◌, eqb, leb}
use Rattle.std.specs.Int.Bits.{bit_xor}
use Rattle.octets.specs.Bytes.{be}
use Rattle.octets.specs.Equal.{holds}

-- the exclusive or of two lists of bytes, byte by byte, as long as the shorter
unfoldable pub xor_of : List ℕ → List ℕ → List ℕ
xor_of [] ys = []
xor_of (x ∷ xs) [] = []
xor_of (x ∷ xs) (y ∷ ys) = bit_xor x y ∷ xor_of xs ys

-- the distance of two ids
abbrev pub distance_of : List ℕ → List ℕ → ℕ
distance_of a b = be (xor_of a b)

-- an id is within a radius of a node: its distance is at most the radius, equality included
abbrev pub within_of : List ℕ → List ℕ → List ℕ → Bool
within_of node id radius = leb (distance_of node id) (be radius)

-- the bit length of n, where w bits are enough for it: the largest number k up to w for which 2 ^ (k - 1) is at most n, and 0 for 0
unfoldable pub bit_length : ℕ → ℕ → ℕ
bit_length zero n = 0
bit_length (suc k) n = cond (leb (2 ^ k) n) (suc k) (bit_length k n)

-- the log distance of two ids ("distance class" in documents 01 and 02), by document 02's request 2: the bit length of their distance
abbrev pub log_distance_of : List ℕ → List ℕ → ℕ
log_distance_of a b = bit_length 256 (distance_of a b)

-- the distances of a FindNode ask for a log distance: it is one of them, and fits the byte that a distance has there
abbrev pub asked_of : List ℕ → ℕ → Bool
asked_of distances log = leb log 255 && holds eqb log distances
