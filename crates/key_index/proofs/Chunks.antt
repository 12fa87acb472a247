-- A flat array as a list of keys, nine bytes each. Each law goes by recursion on the number of keys; `next` takes the places of the
-- bytes along. Assumes nothing.
use Prim.Native.Nat.{ℕ, zero, suc, ◌+◌, ◌-◌, ◌*◌, ◌≤◌, ◌<◌, min}
use native.Mathlib.Decide.{dec_lt}
use native.Mathlib.Nat.{zero-add, suc-add, le_refl}
use native.Mathlib.Numerals.{add-one}
use native.Mathlib.Omega.{arith}
use mathlib.Core.Path.{◌≡◌, refl, sym, ap, ap₂, ◌∙◌}
use mathlib.Core.List.{List, [], ◌∷◌, ◌++◌}
use borrow.Author.Tests.{le-leb, lt-leb}
use lib.ListN.{length, get_or, take, drop, replicate, length-drop, get_or-eq_default}
use lib.Seq.{take_all, take-nil, take_at, drop_at, take-take, drop-drop, length-take-le}
use Rattle.std.proofs.lemmas.List.{get_or_default}
use Rattle.std.specs.Simd.{first_chunks}
use Rattle.octets.specs.Bytes.{Bytes}
use Rattle.octets.proofs.Numbers.{bytes_take, bytes_drop}
use Rattle.key_index.specs.Keys.{Each, NineBytes}
use Rattle.key_index.specs.View.{chunks, key_at}

-- the bytes after nine and m keys more
pub next : (m : ℕ) (b : List ℕ) → drop (9 * m) (drop 9 b) ≡ drop (9 * suc m) b
next m b =
    let e : 9 + 9 * m ≡ 9 * suc m = omega arith in
    drop-drop (9 * m) 9 b ∙ ap (λ (k : ℕ). drop k b) e

-- n keys are n
pub chunks_length : (n : ℕ) (b : List ℕ) → length (chunks n b) ≡ n
unfolding chunks
chunks_length zero b = refl
chunks_length (suc n) b = ap suc (chunks_length n (drop 9 b))

-- m keys, and the n after them
pub chunks_add : (m n : ℕ) (b : List ℕ) → chunks (m + n) b ≡ chunks m b ++ chunks n (drop (9 * m) b)
unfolding chunks
chunks_add zero n b = ap (λ (k : ℕ). chunks k b) (zero-add n)
chunks_add (suc m) n b =
    ap (λ (k : ℕ). chunks k b) (suc-add m n)
    ∙ ap (λ (l : List (List ℕ)). take 9 b ∷ l)
    (chunks_add m n (drop 9 b) ∙ ap (λ (l : List ℕ). chunks m (drop 9 b) ++ chunks n l) (next m b))

-- one key more, at the end
pub chunks_more : (n : ℕ) (b : List ℕ) → chunks (suc n) b ≡ chunks n b ++ (take 9 (drop (9 * n) b) ∷ [])
unfolding chunks
chunks_more n b = ap (λ (k : ℕ). chunks k b) (sym (add-one n)) ∙ chunks_add n 1 b

-- the keys from place i on: the one there, and those after it
pub chunks_rest : (n i : ℕ) (b : List ℕ) → i < n
    → chunks (n - i) (drop (9 * i) b) ≡ take 9 (drop (9 * i) b) ∷ chunks (n - suc i) (drop (9 * suc i) b)
unfolding chunks
chunks_rest n i b h =
    let e : n - i ≡ suc (n - suc i) = omega arith in
    let f : 9 * i + 9 ≡ 9 * suc i = omega arith in
    ap (λ (k : ℕ). chunks k (drop (9 * i) b)) e
    ∙ ap (λ (l : List ℕ). take 9 (drop (9 * i) b) ∷ chunks (n - suc i) l)
    (drop-drop 9 (9 * i) b ∙ ap (λ (k : ℕ). drop k b) f)

pub drop_take : (m n : ℕ) (l : List ℕ) → drop m (take (m + n) l) ≡ take n (drop m l)
drop_take zero n l = ap (λ (k : ℕ). take k l) (zero-add n)
drop_take (suc m) n [] = ap (drop (suc m)) (take-nil (suc m + n)) ∙ sym (take-nil n)
drop_take (suc m) n (x ∷ l) = ap (λ (k : ℕ). drop (suc m) (take k (x ∷ l))) (suc-add m n) ∙ drop_take m n l

front : (m k : ℕ) (b : List ℕ) → chunks m (take (9 * m + k) b) ≡ chunks m b
unfolding chunks
front zero k b = refl
front (suc m) k b =
    let e : 9 * suc m + k ≡ 9 + (9 * m + k) = omega arith in
    ap₂ (λ (x : List ℕ) (l : List (List ℕ)). x ∷ l)
    (take-take 9 (9 * suc m + k) b (omega arith))
    (ap (λ (j : ℕ). chunks m (drop 9 (take j b))) e
    ∙ ap (chunks m) (drop_take 9 (9 * m + k) b)
    ∙ front m k (drop 9 b))

-- the first m keys are in the first n
pub chunks_take : (m n : ℕ) (b : List ℕ) → m ≤ n → chunks m (take (9 * n) b) ≡ chunks m b
chunks_take m n b h =
    let e : 9 * n ≡ 9 * m + 9 * (n - m) = omega arith in
    ap (λ (k : ℕ). chunks m (take k b)) e ∙ front m (9 * (n - m)) b

-- n keys depend on the first 9 * n bytes only
pub chunks_only : (n : ℕ) (a b : List ℕ) → take (9 * n) a ≡ take (9 * n) b → chunks n a ≡ chunks n b
chunks_only n a b e = sym (chunks_take n n a (le_refl n)) ∙ ap (chunks n) e ∙ chunks_take n n b (le_refl n)

-- the keys of two arrays joined
pub chunks_append : (m n : ℕ) (a b : List ℕ) → length a ≡ 9 * m → chunks (m + n) (a ++ b) ≡ chunks m a ++ chunks n b
chunks_append m n a b h =
    let f : chunks m (a ++ b) ≡ chunks m a =
    sym (chunks_take m m (a ++ b) (le_refl m)) ∙ ap (chunks m) (take_at a b (9 * m) h) in
    chunks_add m n (a ++ b)
    ∙ ap₂ (λ (x y : List (List ℕ)). x ++ y) f (ap (chunks n) (drop_at a b (9 * m) h))

-- the first m of m + n keys
pub take_chunks : (m n : ℕ) (b : List ℕ) → take m (chunks (m + n) b) ≡ chunks m b
take_chunks m n b = ap (take m) (chunks_add m n b) ∙ take_at (chunks m b) (chunks n (drop (9 * m) b)) m (chunks_length m b)

-- the keys after the first m are those of the bytes after 9 * m
pub drop_chunks : (m n : ℕ) (b : List ℕ) → drop m (chunks (m + n) b) ≡ chunks n (drop (9 * m) b)
drop_chunks m n b = ap (drop m) (chunks_add m n b) ∙ drop_at (chunks m b) (chunks n (drop (9 * m) b)) m (chunks_length m b)

-- the key at place i
pub get_or_chunks : (n i : ℕ) (b : List ℕ) → i < n → get_or (chunks n b) i [] ≡ take 9 (drop (9 * i) b)
unfolding chunks
get_or_chunks zero i b h = absurd (omega arith)
get_or_chunks (suc n) zero b h = refl
get_or_chunks (suc n) (suc i) b h = get_or_chunks n i (drop 9 b) (omega arith) ∙ ap (take 9) (next i b)

-- the key that the code reads, where the array has its nine bytes
pub key_at_in : (b : List ℕ) (i : ℕ) → 9 * suc i ≤ length b → key_at b i ≡ take 9 (drop (9 * i) b)
unfolding key_at
key_at_in b i h = rw (le-leb (9 * suc i) (length b) h)

-- zeros, where it has not
pub key_at_out : (b : List ℕ) (i : ℕ) → length b < 9 * suc i → key_at b i ≡ replicate 9 0
unfolding key_at
key_at_out b i h = rw (lt-leb (9 * suc i) (length b) h)

-- each key of an array that is long enough has nine bytes
pub chunks_nine : (n : ℕ) (b : List ℕ) → 9 * n ≤ length b → Bytes b → Each NineBytes (chunks n b)
unfolding chunks
chunks_nine zero b l h = tt
chunks_nine (suc n) b l h = (
  record { size = length-take-le 9 b (omega arith); bytes = bytes_take 9 b h },
  chunks_nine n (drop 9 b) (omega (arith, length-drop 9 b)) (bytes_drop 9 b h),
)

-- std's pieces of nine bytes are the keys
pub chunks_pieces : (n : ℕ) (b : List ℕ) → first_chunks 9 n b ≡ chunks n b
unfolding chunks
chunks_pieces zero b = refl
chunks_pieces (suc n) b = ap (λ (l : List (List ℕ)). take 9 b ∷ l) (chunks_pieces n (drop 9 b))

-- so many of all the places as there are keys are the keys, as far as there are places
pub places_held : (limit count n : ℕ) (b : List ℕ) → n ≡ min count limit → take n (chunks limit b) ≡ take limit (chunks count b)
places_held limit count n b is = go (dec_lt limit count)
  where
    go : Dec (limit < count) → take n (chunks limit b) ≡ take limit (chunks count b)
    go (yes h) =
        let e : limit + (count - limit) ≡ count = omega arith in
        ap (λ (k : ℕ). take k (chunks limit b)) (omega arith)
        ∙ take_all limit (chunks limit b) (omega (arith, chunks_length limit b))
        ∙ sym (take_chunks limit (count - limit) b)
        ∙ ap (λ (k : ℕ). take limit (chunks k b)) e
    go (no h) =
        let e : limit ≡ count + (limit - count) = omega arith in
        ap₂ (λ (k j : ℕ). take k (chunks j b)) (omega arith) e
        ∙ take_chunks count (limit - count) b
        ∙ sym (take_all limit (chunks count b) (omega (arith, chunks_length count b)))

-- the key at a place, or zeros, is the key that the code reads
pub key_at_place : (limit i : ℕ) (b : List ℕ) → 9 * limit ≤ length b → length b < 9 + 9 * limit → get_or (chunks limit b) i (replicate 9 0) ≡ key_at b i
key_at_place limit i b least most = go (dec_lt i limit)
  where
    zeros : List ℕ
    zeros = replicate 9 0

    go : Dec (i < limit) → get_or (chunks limit b) i zeros ≡ key_at b i
    go (yes h) =
        get_or_default (chunks limit b) i zeros [] (omega (arith, chunks_length limit b))
        ∙ get_or_chunks limit i b h
        ∙ sym (key_at_in b i (omega arith))
    go (no h) = get_or-eq_default (chunks limit b) zeros {n = i} (omega (arith, chunks_length limit b)) ∙ sym (key_at_out b i (omega arith))
