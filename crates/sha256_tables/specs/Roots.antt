-- The bits of a root's fraction.
use Rattle.std.specs.Prelude.{ℕ, zero, suc, ◌+◌, ◌*◌, ◌%◌, ◌^◌, cond, leb}

-- the largest number whose power e is at most x, found bit by bit: r is so far, and its last k bits are to come, heaviest first
unfoldable pub root_from : ℕ → ℕ → ℕ → ℕ → ℕ
root_from e x zero r = r
root_from e x (suc k) r = root_from e x k (cond (leb ((r + 2 ^ k) ^ e) x) (r + 2 ^ k) r)

-- the same of any x whose root is below 2 ^ 36
unfoldable pub root_of : ℕ → ℕ → ℕ
root_of e x = root_from e x 36 0

-- the first 32 bits of the fraction of the root e of p, the square root for 2 and the cube root for 3: the root of
-- p times 2 ^ (32 e) is that of p moved by 32 bits
unfoldable pub root_bits : ℕ → ℕ → ℕ
root_bits e p = root_of e (p * 2 ^ (32 * e)) % 2 ^ 32
