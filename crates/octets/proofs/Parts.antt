-- Some bytes of a list from a place on: how many, where they stand in the list, and what they stand for as a number.
-- Assumes nothing.
use Prim.Native.Nat.{ℕ, zero, suc, ◌+◌, ◌*◌, ◌<◌, ◌≤◌, min}
use native.Mathlib.Decide.{dec_lt}
use native.Mathlib.Nat.{zero-add, suc-add}
use native.Mathlib.Omega.{arith}
use mathlib.Core.Path.{◌≡◌, refl, sym, ◌∙◌, ap, ap₂}
use mathlib.Core.List.{List, [], ◌∷◌, ◌++◌}
use lib.ListN.{length, get_or, take, drop, replicate, length-drop, drop_of_length-le, get_or-eq_default}
use native.Mathlib.Nat.{mul-zero, mul-suc}
use Rattle.std.specs.Simd.{first_chunks}
use lib.Seq.{drop-cons, drop-drop}
use Rattle.octets.specs.Bytes.{le}
use Rattle.octets.specs.Parts.{bytes_at}

-- so many bytes
pub bytes_at_length : (n j : ℕ) (xs : List ℕ) → length (bytes_at n j xs) ≡ n
bytes_at_length zero j xs = refl
bytes_at_length (suc n) j xs = ap suc (bytes_at_length n (suc j) xs)

-- each of them
pub bytes_at_get : (n j : ℕ) (xs : List ℕ) (i : ℕ) → i < n → get_or (bytes_at n j xs) i 0 ≡ get_or xs (j + i) 0
bytes_at_get zero j xs i h = absurd (omega arith)
bytes_at_get (suc n) j xs zero h = let e : j ≡ j + 0 = omega arith in ap (λ (k : ℕ). get_or xs k 0) e
bytes_at_get (suc n) j xs (suc i) h =
    let e : suc j + i ≡ j + suc i = omega arith in
    bytes_at_get n (suc j) xs i (omega arith) ∙ ap (λ (k : ℕ). get_or xs k 0) e

-- where all of them are in the list, they are that part of it
pub bytes_at_part : (n j : ℕ) (xs : List ℕ) → j + n ≤ length xs → bytes_at n j xs ≡ take n (drop j xs)
bytes_at_part zero j xs h = refl
bytes_at_part (suc n) j xs h =
    ap (λ (l : List ℕ). get_or xs j 0 ∷ l) (bytes_at_part n (suc j) xs (omega arith))
    ∙ ap (take (suc n)) (sym (drop-cons xs j 0 (omega arith)))

-- or where so many are left
pub bytes_at_left : (n j : ℕ) (xs : List ℕ) → n ≤ length (drop j xs) → bytes_at n j xs ≡ take n (drop j xs)
bytes_at_left zero j xs h = refl
bytes_at_left (suc n) j xs h = bytes_at_part (suc n) j xs (omega (arith, length-drop j xs))

-- up to the end of the list, they are its rest
pub bytes_at_rest : (n j : ℕ) (xs : List ℕ) → j + n ≡ length xs → bytes_at n j xs ≡ drop j xs
bytes_at_rest zero j xs h = sym (drop_of_length-le xs {i = j} (omega arith))
bytes_at_rest (suc n) j xs h =
    ap (λ (l : List ℕ). get_or xs j 0 ∷ l) (bytes_at_rest n (suc j) xs (omega arith)) ∙ sym (drop-cons xs j 0 (omega arith))

pub bytes_at_all : (n : ℕ) (xs : List ℕ) → length xs ≡ n → bytes_at n 0 xs ≡ xs
bytes_at_all n xs h = bytes_at_rest n 0 xs (omega arith)

-- past the end all of them are 0
pub bytes_at_past : (n j : ℕ) (xs : List ℕ) → length xs ≤ j → bytes_at n j xs ≡ replicate n 0
bytes_at_past zero j xs h = refl
bytes_at_past (suc n) j xs h = ap₂ (λ (x : ℕ) (l : List ℕ). x ∷ l) (get_or-eq_default xs 0 {n = j} h) (bytes_at_past n (suc j) xs (omega arith))

-- as many as there are, and zeros behind them
pub bytes_at_over : (m k j : ℕ) (xs : List ℕ) → m ≡ min (length (drop j xs)) (m + k) → take m (drop j xs) ++ replicate k 0 ≡ bytes_at (m + k) j xs
bytes_at_over zero k j xs e =
    rw zero-add (elim k as (λ (n : ℕ). k ≡ n → replicate n 0 ≡ bytes_at n j xs) [
      | zero ↦ λ p. refl
      | suc n ↦ λ p. sym (bytes_at_past (suc n) j xs (omega (arith, length-drop j xs)))
    ] refl)
bytes_at_over (suc m) k j xs e =
    rw suc-add (ap (λ (l : List ℕ). take (suc m) l ++ replicate k 0) (drop-cons xs j 0 (omega (arith, length-drop j xs)))
    ∙ ap (λ (l : List ℕ). get_or xs j 0 ∷ l) (bytes_at_over m k (suc j) xs (omega (arith, length-drop j xs, length-drop (suc j) xs))))

-- a part of a list that is cut into parts of n
pub chunk_at : (n k : ℕ) (xs : List ℕ) (i : ℕ) → i < k → get_or (first_chunks n k xs) i [] ≡ take n (drop (n * i) xs)
chunk_at n zero xs i h = absurd (omega arith)
chunk_at n (suc k) xs zero h = ap (λ (j : ℕ). take n (drop j xs)) (sym (mul-zero n))
chunk_at n (suc k) xs (suc i) h =
    let e : n + n * i ≡ n * suc i = omega (arith, mul-suc n i) in
    chunk_at n k (drop n xs) i (omega arith) ∙ ap (take n) (drop-drop (n * i) n xs ∙ ap (λ (j : ℕ). drop j xs) e)

-- past the end all of them are 0, which stand for 0
le_past : (n j : ℕ) (xs : List ℕ) → length xs ≤ j → le (bytes_at n j xs) ≡ 0
unfolding le
le_past zero j xs h = refl
le_past (suc n) j xs h = omega (arith, get_or-eq_default xs 0 {n = j} h, le_past n (suc j) xs (omega arith))

-- so bytes past the end do not count in the number, lightest byte first
pub le_part : (n j : ℕ) (xs : List ℕ) → le (bytes_at n j xs) ≡ le (take n (drop j xs))
unfolding le
le_part zero j xs = refl
le_part (suc n) j xs = go (dec_lt j (length xs)) (le_part n (suc j) xs)
  where
    go : Dec (j < length xs) → le (bytes_at n (suc j) xs) ≡ le (take n (drop (suc j) xs))
        → le (get_or xs j 0 ∷ bytes_at n (suc j) xs) ≡ le (take (suc n) (drop j xs))
    go (yes h) e =
        ap (λ (m : ℕ). get_or xs j 0 + 256 * m) e ∙ ap (λ (l : List ℕ). le (take (suc n) l)) (sym (drop-cons xs j 0 h))
    go (no h) e =
        le_past (suc n) j xs (omega arith) ∙ sym (ap (λ (l : List ℕ). le (take (suc n) l)) (drop_of_length-le xs {i = j} (omega arith)))
