-- The header that RLP writes before a payload, and the fewest bytes of a number: its last k bytes, where 256 ^ (k - 1) is at most the number
-- and 256 ^ k is above it, so that they are the only length bytes with no leading zero. Assumes nothing.
use Prim.Native.Nat.{ℕ, zero, suc, ◌+◌, ◌*◌, ◌/◌, ◌%◌, ◌^◌, ◌≤◌, ◌<◌}
use native.Mathlib.Nat.{pow-suc, one-le-pow, div-eq_of_lt, div-lt_iff_lt-mul, le-div_iff_mul-le}
use native.Mathlib.Omega.{arith}
use mathlib.Core.List.{List, [], ◌∷◌, ◌++◌}
use mathlib.Core.Path.{◌≡◌, refl, ap, ◌∙◌}
use lib.Dec.{lit<}
use lib.ListN.{length, get_or}
use borrow.Author.Tests.{le-leb, lt-leb, ne_eqb}
use Rattle.octets.specs.Bytes.{Bytes, be, be_bytes}
use Rattle.octets.proofs.Numbers.{be_lt, be_append, be_bytes_be}
use Rattle.rlp.specs.Written.{fewest, header_of}

-- 0 takes no bytes
fewest_zero : (most : ℕ) → fewest most 0 ≡ []
unfolding fewest
fewest_zero zero = refl
fewest_zero (suc most) = refl

-- any other number takes the bytes of n / 256, and one more
fewest_more : (most n : ℕ) → 0 < n → fewest (suc most) n ≡ fewest most (n / 256) ++ (n % 256 ∷ [])
unfolding fewest
fewest_more most n h = rw (ne_eqb n 0 (λ e. omega arith))

-- a 256th of a number takes a byte less
less : (n k : ℕ) → n < 256 ^ suc k → n / 256 < 256 ^ k
less n k h = (div-lt_iff_lt-mul (lit< tt)).1 (rw pow-suc at h)

-- the fewest bytes stand for the number
pub be_fewest : (most n : ℕ) → n < 256 ^ most → be (fewest most n) ≡ n
unfolding fewest be
be_fewest zero n h = omega arith
be_fewest (suc most) zero h = refl
be_fewest (suc most) (suc n) h =
    ap be (fewest_more most (suc n) (omega arith))
    ∙ be_append (fewest most (suc n / 256)) (suc n % 256 ∷ [])
    ∙ ap (λ (m : ℕ). m * 256 + (suc n % 256 * 1 + 0)) (be_fewest most (suc n / 256) (less (suc n) most h)) ∙ omega arith

-- a first byte that is not zero stays first
pub head_append : (xs ys : List ℕ) → 0 < get_or xs 0 0 → get_or (xs ++ ys) 0 0 ≡ get_or xs 0 0
head_append [] ys h = absurd (omega arith)
head_append (x ∷ xs) ys h = refl

-- and there is one
pub head_length : (xs : List ℕ) → 0 < get_or xs 0 0 → 0 < length xs
head_length [] h = h
head_length (x ∷ xs) h = omega arith

-- the first of the bytes of q, and r, is not zero if that of q is not
head_step : (most q r : ℕ) → 0 < q * 256 + r → (0 < q → 0 < get_or (fewest most q) 0 0) → 0 < get_or (fewest most q ++ (r ∷ [])) 0 0
head_step most zero r h f = rw (fewest_zero most) (omega arith)
head_step most (suc q) r h f =
    omega (arith, f (omega arith), head_append (fewest most (suc q)) (r ∷ []) (f (omega arith)))

-- the fewest bytes have no leading zero
pub fewest_head : (most n : ℕ) → 0 < n → n < 256 ^ most → 0 < get_or (fewest most n) 0 0
fewest_head zero n p h = absurd (omega arith)
fewest_head (suc most) n p h =
    rw (fewest_more most n p)
    (head_step most (n / 256) (n % 256) (omega arith) (λ q. fewest_head most (n / 256) q (less n most h)))

-- they are the last k bytes, for the one k that fits
fewest_last : (most j n : ℕ) → j < most → 256 ^ j ≤ n → n < 256 ^ suc j → fewest most n ≡ be_bytes (suc j) n
unfolding be_bytes
fewest_last zero j n l low high = absurd (omega arith)
fewest_last (suc most) zero n l low high =
    fewest_more most n (omega arith)
    ∙ ap (λ (xs : List ℕ). xs ++ (n % 256 ∷ [])) (ap (fewest most) (div-eq_of_lt high) ∙ fewest_zero most)
fewest_last (suc most) (suc j) n l low high =
    fewest_more most n (omega (arith, one-le-pow (suc j) 256 (lit< tt)))
    ∙ ap (λ (xs : List ℕ). xs ++ (n % 256 ∷ []))
    (fewest_last most j (n / 256) (omega arith) ((le-div_iff_mul-le (lit< tt)).1 (rw pow-suc at low)) (less n (suc j) high))

-- bytes with no leading zero are the fewest bytes of their number
pub fewest_be : (most : ℕ) (xs : List ℕ) → Bytes xs → length xs ≤ most → 0 < get_or xs 0 0 → fewest most (be xs) ≡ xs
unfolding be
fewest_be most [] h l z = absurd (omega arith)
fewest_be most (zero ∷ xs) h l z = absurd (omega arith)
fewest_be most (suc x ∷ xs) h l z =
    fewest_last most (length xs) (be (suc x ∷ xs)) (omega arith) (omega arith) (be_lt (suc x ∷ xs) h) ∙ be_bytes_be (suc x ∷ xs) h

-- a length of at most 55 has one header byte
pub header_short : (n : ℕ) → n ≤ 55 → header_of n ≡ (192 + n) ∷ []
unfolding header_of
header_short n h = rw (le-leb n 55 h)

-- a longer one has 247 + k, and its k length bytes
pub header_long : (n : ℕ) → 55 < n → header_of n ≡ (247 + length (fewest 8 n)) ∷ fewest 8 n
unfolding header_of
header_long n h = rw (lt-leb n 55 h)
