-- SHA-256 of any bytes, FIPS 180-4, sections 5.1.1, 5.2.1, 5.3.3 and 6.2.
use Rattle.std.specs.Prelude.{ℕ, zero, suc, ◌-◌, ◌*◌, ◌/◌, ◌%◌, List, [], ◌∷◌, ◌++◌, length, get_or, take, drop, replicate}
use Rattle.octets.specs.Bytes.{be_bytes}
use Rattle.sha256_tables.specs.Tables.{start_words}
use Rattle.sha256_block.specs.declared.State.{State}
use Rattle.sha256_block.specs.Block.{compressed}

-- how many zero bytes follow the first one of the padding, so that the length then ends a block
unfoldable pub zeros_of : ℕ → ℕ
zeros_of n = (119 - n % 64) % 64

-- the message, a bit that is set and seven that are not, zeros, and the message's length in bits as eight bytes
unfoldable pub pad : List ℕ → List ℕ
pad m = m ++ (128 ∷ []) ++ replicate (zeros_of (length m)) 0 ++ be_bytes 8 (8 * length m)

-- block n of a padded message
unfoldable pub block_at : List ℕ → ℕ → List ℕ
block_at p n = take 64 (drop (64 * n) p)

-- eight words as a state
unfoldable pub state_of : List ℕ → State
state_of ws =
    record {
      a = get_or ws 0 0;
      b = get_or ws 1 0;
      c = get_or ws 2 0;
      d = get_or ws 3 0;
      e = get_or ws 4 0;
      f = get_or ws 5 0;
      g = get_or ws 6 0;
      h = get_or ws 7 0;
    }

-- the state after the first n blocks
unfoldable pub after : List ℕ → ℕ → State
after p zero = state_of start_words
after p (suc n) = compressed (after p n) (block_at p n)

-- the words of a state
unfoldable pub words_of : State → List ℕ
words_of s = s.a ∷ s.b ∷ s.c ∷ s.d ∷ s.e ∷ s.f ∷ s.g ∷ s.h ∷ []

-- words as bytes, four to each, heaviest first
unfoldable pub word_bytes : List ℕ → List ℕ
word_bytes [] = []
word_bytes (w ∷ ws) = be_bytes 4 w ++ word_bytes ws

-- the hash of a message: the state after all blocks of the padded one
unfoldable pub sha256 : List ℕ → List ℕ
sha256 m = word_bytes (words_of (after (pad m) (length (pad m) / 64)))
