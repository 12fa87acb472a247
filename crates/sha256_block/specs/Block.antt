-- One block of SHA-256, in the steps of FIPS 180-4, section 6.2.2. A byte past the end of a block is 0.
use Rattle.std.specs.Prelude.{ℕ, zero, suc, ◌+◌, ◌*◌, List, [], ◌∷◌, ◌++◌, slice_index}
use Rattle.octets.specs.Bytes.{be}
use Rattle.sha256_tables.specs.Tables.{round_words}
use Rattle.sha256_block.specs.declared.State.{State}
use Rattle.sha256_block.specs.Words.{◌⊞◌, Ch, Maj, Σ0, Σ1, σ0, σ1}

-- word t of a block: four bytes, heaviest first
unfoldable pub word_at : List ℕ → ℕ → ℕ
word_at block t = be (slice_index block (4 * t) ∷ slice_index block (4 * t + 1) ∷ slice_index block (4 * t + 2) ∷ slice_index block (4 * t + 3) ∷ [])

-- the first n words of a block
unfoldable pub first_words : List ℕ → ℕ → List ℕ
first_words block zero = []
first_words block (suc n) = first_words block n ++ (word_at block n ∷ [])

-- W(t) for t from 16 on, from W(t - 16), W(t - 15), W(t - 7) and W(t - 2)
unfoldable pub next_of : ℕ → ℕ → ℕ → ℕ → ℕ
next_of w0 w1 w9 w14 = σ1 w14 ⊞ w9 ⊞ σ0 w1 ⊞ w0

-- W(n + 16), from the words of the schedule before it
unfoldable pub next_word : List ℕ → ℕ → ℕ
next_word ws n = next_of (slice_index ws n) (slice_index ws (n + 1)) (slice_index ws (n + 9)) (slice_index ws (n + 14))

-- step 1, the schedule: the sixteen words of the block, and then n more
unfoldable pub schedule : List ℕ → ℕ → List ℕ
schedule block zero = first_words block 16
schedule block (suc n) = schedule block n ++ (next_word (schedule block n) n ∷ [])

-- T1 and T2 of step 3, with a round's constant k and word w
unfoldable pub T1 : State → ℕ → ℕ → ℕ
T1 s k w = s.h ⊞ Σ1 s.e ⊞ Ch s.e s.f s.g ⊞ k ⊞ w

unfoldable pub T2 : State → ℕ
T2 s = Σ0 s.a ⊞ Maj s.a s.b s.c

-- a round
unfoldable pub round : State → ℕ → ℕ → State
round s k w =
    record {
      a = T1 s k w ⊞ T2 s;
      b = s.a;
      c = s.b;
      d = s.c;
      e = s.d ⊞ T1 s k w;
      f = s.e;
      g = s.f;
      h = s.g;
    }

-- step 3, n rounds from round t on, with constants ks and words ws
unfoldable pub rounds : List ℕ → List ℕ → ℕ → State → ℕ → State
rounds ks ws t s zero = s
rounds ks ws t s (suc n) = round (rounds ks ws t s n) (slice_index ks (t + n)) (slice_index ws (t + n))

-- step 4, the sums of two states, word by word
unfoldable pub sums : State → State → State
sums s r =
    record {
      a = s.a ⊞ r.a;
      b = s.b ⊞ r.b;
      c = s.c ⊞ r.c;
      d = s.d ⊞ r.d;
      e = s.e ⊞ r.e;
      f = s.f ⊞ r.f;
      g = s.g ⊞ r.g;
      h = s.h ⊞ r.h;
    }

-- the state after a block
unfoldable pub compressed : State → List ℕ → State
compressed s block = sums (rounds round_words (schedule block 48) 0 s 64) s
