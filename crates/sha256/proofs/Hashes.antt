-- What is known of every hash. Assumes nothing.
use Prim.Native.Nat.{ℕ, ◌/◌}
use mathlib.Core.Path.{◌≡◌}
use mathlib.Core.List.{List}
use lib.ListN.{length}
use Rattle.octets.specs.Bytes.{Bytes}
use Rattle.sha256.specs.Hash.{pad, after, words_of, sha256}
use Rattle.sha256.proofs.Written.{word_bytes_length, word_bytes_bytes}

-- a hash is 32 long
pub length_sha256 : (m : List ℕ) → length (sha256 m) ≡ 32
unfolding sha256 words_of
length_sha256 m = word_bytes_length (words_of (after (pad m) (length (pad m) / 64)))

-- and bytes
pub bytes_sha256 : (m : List ℕ) → Bytes (sha256 m)
unfolding sha256
bytes_sha256 m = word_bytes_bytes (words_of (after (pad m) (length (pad m) / 64)))
