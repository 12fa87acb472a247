-- Laws on lists of bytes and the numbers that they stand for, heaviest byte first (be) and lightest byte first (le).
-- Each goes by recursion on the list; a number and its digits meet in `digits_lt`, `digits_div` and `digits_mod`. Assumes nothing.
use Prim.Native.Nat.{ℕ, zero, suc, ◌+◌, ◌*◌, ◌/◌, ◌%◌, ◌^◌, ◌<◌}
use native.Mathlib.Nat.{suc_inj, suc-ne-zero, pow-suc, pow-succ', mod-one, mod-lt, mod-eq_of_lt, one-le-pow, div-one, div-div-eq-div-mul, mod-mod}
use native.Mathlib.Omega.{arith}
use mathlib.Core.Path.{◌≡◌, refl, sym, ap, ap₂, ◌∙◌}
use mathlib.Core.List.{List, [], ◌∷◌, ◌++◌, reverse, reverse_aux}
use lib.Dec.{lit<}
use lib.Arith.{digits_lt, digits_div, digits_mod, mod-mul}
use lib.Pow.{pow-add}
use lib.ListN.{length, get_or, take, drop, replicate, length-append}
use Rattle.std.specs.Int.{bytes_high_first}
use Rattle.octets.specs.Bytes.{Bytes, be, le, be_bytes, le_bytes}

-- a list is bytes if each place holds less than 256
pub bytes_all : (xs : List ℕ) → ((i : ℕ) → get_or xs i 0 < 256) → Bytes xs
bytes_all [] h = tt
bytes_all (x ∷ xs) h = (h 0, bytes_all xs (λ i. h (suc i)))

-- each place of bytes holds less than 256
pub bytes_at_lem : (xs : List ℕ) → Bytes xs → (i : ℕ) → get_or xs i 0 < 256
bytes_at_lem [] h i = lit< tt
bytes_at_lem (x ∷ xs) h zero = h.0
bytes_at_lem (x ∷ xs) h (suc i) = bytes_at_lem xs h.1 i

-- bytes joined to bytes are bytes
pub bytes_append : (xs ys : List ℕ) → Bytes xs → Bytes ys → Bytes (xs ++ ys)
bytes_append [] ys h k = k
bytes_append (x ∷ xs) ys h k = (h.0, bytes_append xs ys h.1 k)

-- the first n of some bytes are bytes
pub bytes_take : (n : ℕ) (xs : List ℕ) → Bytes xs → Bytes (take n xs)
bytes_take zero xs h = tt
bytes_take (suc n) [] h = tt
bytes_take (suc n) (x ∷ xs) h = (h.0, bytes_take n xs h.1)

-- what follows the first n of some bytes is bytes
pub bytes_drop : (n : ℕ) (xs : List ℕ) → Bytes xs → Bytes (drop n xs)
bytes_drop zero xs h = h
bytes_drop (suc n) [] h = tt
bytes_drop (suc n) (x ∷ xs) h = bytes_drop n xs h.1

-- bytes in the other order are bytes
pub bytes_reverse : (xs : List ℕ) → Bytes xs → Bytes (reverse xs)
bytes_reverse xs h = onto xs [] h tt
  where
    onto : (xs ys : List ℕ) → Bytes xs → Bytes ys → Bytes (reverse_aux xs ys)
    onto [] ys h k = k
    onto (x ∷ xs) ys h k = onto xs (x ∷ ys) h.1 (h.0, k)

-- a byte many times over is bytes
pub bytes_replicate : (n b : ℕ) → b < 256 → Bytes (replicate n b)
bytes_replicate zero b h = tt
bytes_replicate (suc n) b h = (h, bytes_replicate n b h)

-- k bytes stand for less than 256 ^ k
pub be_lt : (xs : List ℕ) → Bytes xs → be xs < 256 ^ length xs
unfolding be
be_lt [] h = lit< tt
be_lt (x ∷ xs) h = rw pow-succ' (digits_lt h.0 (be_lt xs h.1))

-- the number of two lists joined
pub be_append : (xs ys : List ℕ) → be (xs ++ ys) ≡ be xs * 256 ^ length ys + be ys
unfolding be
be_append [] ys = omega arith
be_append (x ∷ xs) ys =
    let e : 256 ^ length (xs ++ ys) ≡ 256 ^ length xs * 256 ^ length ys =
    ap (λ (n : ℕ). 256 ^ n) (length-append xs ys) ∙ pow-add 256 (length xs) (length ys) in
    ap₂ (λ (m n : ℕ). x * m + n) e (be_append xs ys) ∙ omega arith

-- zeros stand for 0
pub be_zeros : (n : ℕ) → be (replicate n 0) ≡ 0
unfolding be
be_zeros zero = refl
be_zeros (suc n) = omega (arith, be_zeros n)

-- a first byte of 0 does not change the number
pub be_zero_first : (xs : List ℕ) → be (0 ∷ xs) ≡ be xs
unfolding be
be_zero_first xs = omega arith

-- the heaviest byte and the rest, back from the number
be_head : (x : ℕ) (xs : List ℕ) → Bytes xs → be (x ∷ xs) / 256 ^ length xs ≡ x
unfolding be
be_head x xs h = digits_div x (be_lt xs h)

be_tail : (x : ℕ) (xs : List ℕ) → Bytes xs → be (x ∷ xs) % 256 ^ length xs ≡ be xs
unfolding be
be_tail x xs h = digits_mod x (be_lt xs h)

-- equally many bytes that stand for one number are the same
pub be_inj : (xs ys : List ℕ) → length xs ≡ length ys → Bytes xs → Bytes ys → be xs ≡ be ys → xs ≡ ys
be_inj [] [] l h k e = refl
be_inj [] (y ∷ ys) l h k e = absurd (suc-ne-zero (length ys) (sym l))
be_inj (x ∷ xs) [] l h k e = absurd (suc-ne-zero (length xs) l)
be_inj (x ∷ xs) (y ∷ ys) l h k e =
    let same : 256 ^ length xs ≡ 256 ^ length ys = ap (λ (n : ℕ). 256 ^ n) (suc_inj l) in
    ap₂ (λ (z : ℕ) (zs : List ℕ). z ∷ zs)
    (sym (be_head x xs h.1) ∙ ap₂ (λ (m n : ℕ). m / n) e same ∙ be_head y ys k.1)
    (be_inj xs ys (suc_inj l) h.1 k.1
    (sym (be_tail x xs h.1) ∙ ap₂ (λ (m n : ℕ). m % n) e same ∙ be_tail y ys k.1))

-- the last k bytes are k
pub be_bytes_length : (k n : ℕ) → length (be_bytes k n) ≡ k
unfolding be_bytes
be_bytes_length zero n = refl
be_bytes_length (suc k) n = omega (arith, length-append (be_bytes k (n / 256)) (n % 256 ∷ []), be_bytes_length k (n / 256))

-- the last k bytes are bytes
pub be_bytes_bytes : (k n : ℕ) → Bytes (be_bytes k n)
unfolding be_bytes
be_bytes_bytes zero n = tt
be_bytes_bytes (suc k) n = bytes_append (be_bytes k (n / 256)) (n % 256 ∷ []) (be_bytes_bytes k (n / 256)) (mod-lt n (lit< tt), tt)

-- the last k bytes stand for the number below 256 ^ k
pub be_be_bytes : (k n : ℕ) → be (be_bytes k n) ≡ n % 256 ^ k
unfolding be be_bytes
be_be_bytes zero n = sym (mod-one n)
be_be_bytes (suc k) n =
    be_append (be_bytes k (n / 256)) (n % 256 ∷ [])
    ∙ ap (λ (m : ℕ). m * 256 + (n % 256 * 1 + 0)) (be_be_bytes k (n / 256))
    ∙ omega (arith, mod-mul n {m = 256 ^ k} {c = 256} (one-le-pow k 256 (lit< tt)) (lit< tt))
    ∙ ap (λ (m : ℕ). n % m) (sym (pow-suc 256 k))

-- a number below 256 ^ k comes back from its last k bytes
-- the last bytes of a number begin with the heaviest
be_bytes_first : (k n : ℕ) → be_bytes (suc k) n ≡ n / 256 ^ k % 256 ∷ be_bytes k n
unfolding be_bytes
be_bytes_first zero n = ap (λ (m : ℕ). m % 256 ∷ []) (sym (div-one n))
be_bytes_first (suc k) n =
    let more : 256 * 256 ^ k ≡ 256 ^ suc k = omega (arith, pow-suc 256 k) in
    ap (λ (l : List ℕ). l ++ (n % 256 ∷ [])) (be_bytes_first k (n / 256))
    ∙ ap (λ (m : ℕ). m % 256 ∷ be_bytes k (n / 256) ++ (n % 256 ∷ [])) (div-div-eq-div-mul n 256 (256 ^ k) ∙ ap (λ (m : ℕ). n / m) more)

-- they are the bytes of std
pub be_bytes_std : (k n : ℕ) → bytes_high_first k n ≡ be_bytes k n
unfolding be_bytes
be_bytes_std zero n = refl
be_bytes_std (suc zero) n = refl
be_bytes_std (suc (suc k)) n =
    ap (λ (l : List ℕ). n / 256 ^ suc k % 256 ∷ l) (be_bytes_std (suc k) n) ∙ sym (be_bytes_first (suc k) n)

-- of a number modulo 256 ^ k they are the same
pub be_bytes_mod : (k n : ℕ) → be_bytes k (n % 256 ^ k) ≡ be_bytes k n
be_bytes_mod k n =
    be_inj (be_bytes k (n % 256 ^ k)) (be_bytes k n) (be_bytes_length k (n % 256 ^ k) ∙ sym (be_bytes_length k n))
    (be_bytes_bytes k (n % 256 ^ k)) (be_bytes_bytes k n)
    (be_be_bytes k (n % 256 ^ k) ∙ mod-mod n (256 ^ k) ∙ sym (be_be_bytes k n))

pub be_be_bytes_below : (k n : ℕ) → n < 256 ^ k → be (be_bytes k n) ≡ n
be_be_bytes_below k n h = be_be_bytes k n ∙ mod-eq_of_lt h

-- bytes come back from their number
pub be_bytes_be : (xs : List ℕ) → Bytes xs → be_bytes (length xs) (be xs) ≡ xs
be_bytes_be xs h =
    be_inj (be_bytes (length xs) (be xs)) xs (be_bytes_length (length xs) (be xs)) (be_bytes_bytes (length xs) (be xs)) h
    (be_be_bytes_below (length xs) (be xs) (be_lt xs h))

-- k bytes stand for less than 256 ^ k
pub le_lt : (xs : List ℕ) → Bytes xs → le xs < 256 ^ length xs
unfolding le
le_lt [] h = lit< tt
le_lt (x ∷ xs) h = omega (arith, h.0, le_lt xs h.1, pow-succ' 256 (length xs))

-- the number of two lists joined
pub le_append : (xs ys : List ℕ) → le (xs ++ ys) ≡ le xs + 256 ^ length xs * le ys
unfolding le
le_append [] ys = omega arith
le_append (x ∷ xs) ys =
    ap (λ (m : ℕ). x + 256 * m) (le_append xs ys) ∙ rw pow-succ' (omega arith)

-- equally many bytes that stand for one number are the same
pub le_inj : (xs ys : List ℕ) → length xs ≡ length ys → Bytes xs → Bytes ys → le xs ≡ le ys → xs ≡ ys
unfolding le
le_inj [] [] l h k e = refl
le_inj [] (y ∷ ys) l h k e = absurd (suc-ne-zero (length ys) (sym l))
le_inj (x ∷ xs) [] l h k e = absurd (suc-ne-zero (length xs) l)
le_inj (x ∷ xs) (y ∷ ys) l h k e =
    ap₂ (λ (z : ℕ) (zs : List ℕ). z ∷ zs) (omega arith)
    (le_inj xs ys (suc_inj l) h.1 k.1 (omega arith))

-- the last k bytes, lightest first, are k
pub le_bytes_length : (k n : ℕ) → length (le_bytes k n) ≡ k
unfolding le_bytes
le_bytes_length zero n = refl
le_bytes_length (suc k) n = ap suc (le_bytes_length k (n / 256))

-- the last k bytes, lightest first, are bytes
pub le_bytes_bytes : (k n : ℕ) → Bytes (le_bytes k n)
unfolding le_bytes
le_bytes_bytes zero n = tt
le_bytes_bytes (suc k) n = (mod-lt n (lit< tt), le_bytes_bytes k (n / 256))

-- the last k bytes, lightest first, stand for the number below 256 ^ k
pub le_le_bytes : (k n : ℕ) → le (le_bytes k n) ≡ n % 256 ^ k
unfolding le le_bytes
le_le_bytes zero n = sym (mod-one n)
le_le_bytes (suc k) n =
    ap (λ (m : ℕ). n % 256 + 256 * m) (le_le_bytes k (n / 256))
    ∙ omega (arith, mod-mul n {m = 256 ^ k} {c = 256} (one-le-pow k 256 (lit< tt)) (lit< tt))
    ∙ ap (λ (m : ℕ). n % m) (sym (pow-suc 256 k))

-- a number below 256 ^ k comes back from its last k bytes, lightest first
pub le_le_bytes_below : (k n : ℕ) → n < 256 ^ k → le (le_bytes k n) ≡ n
le_le_bytes_below k n h = le_le_bytes k n ∙ mod-eq_of_lt h

-- bytes, lightest first, come back from their number
pub le_bytes_le : (xs : List ℕ) → Bytes xs → le_bytes (length xs) (le xs) ≡ xs
le_bytes_le xs h =
    le_inj (le_bytes (length xs) (le xs)) xs (le_bytes_length (length xs) (le xs)) (le_bytes_bytes (length xs) (le xs)) h
    (le_le_bytes_below (length xs) (le xs) (le_lt xs h))
