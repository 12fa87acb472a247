-- Whether a block hash is canonical, by a proof and the roots of epochs.
use Rattle.std.specs.Prelude.{ℕ, zero, suc, ◌+◌, ◌*◌, ◌/◌, ◌%◌, Bool, cond, ◌&&◌, List, [], ◌∷◌, eqb, leb, ltb, length, take, drop}
use Rattle.refusal.specs.Outcome.{Outcome, given, refused}
use Rattle.octets.specs.Equal.{same_bytes}
use Rattle.accumulator.specs.Tree.{root_along}

-- bytes cut into so many chunks of 32
unfoldable pub chunks_of : ℕ → List ℕ → List (List ℕ)
chunks_of zero bytes = []
chunks_of (suc n) bytes = take 32 bytes ∷ chunks_of n (drop 32 bytes)

-- the epoch of a block number, and the generalized index of the block's hash in that epoch's accumulator
abbrev pub epoch_of : ℕ → ℕ
epoch_of number = number / 8192

abbrev pub hash_index : ℕ → ℕ
hash_index number = 32768 + 2 * (number % 8192)

-- the root of an epoch, of roots one behind the other
abbrev pub root_at : List ℕ → ℕ → List ℕ
root_at roots epoch = take 32 (drop (32 * epoch) roots)

-- the lengths are right: a hash, 15 siblings, at most 2,048 whole roots
unfoldable pub lengths_good : List ℕ → List ℕ → List ℕ → Bool
lengths_good hash proof roots =
    eqb (length hash) 32 && eqb (length proof) 480 && leb (length roots) 65536 && eqb (length roots % 32) 0

-- the root computed from the hash and its siblings is that of the epoch
unfoldable pub is_canonical : ℕ → List ℕ → List ℕ → List ℕ → Bool
is_canonical number hash proof roots = same_bytes (root_along (hash_index number) hash (chunks_of 15 proof)) (root_at roots (epoch_of number))

-- what `canonical` answers: 24, 25, or the verdict
unfoldable pub canonical_of : ℕ → List ℕ → List ℕ → List ℕ → Outcome Bool
canonical_of number hash proof roots =
    cond (lengths_good hash proof roots)
    (cond (ltb (epoch_of number) (length roots / 32)) (given (is_canonical number hash proof roots)) (refused 25))
    (refused 24)
