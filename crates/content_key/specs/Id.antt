-- The content id of a block number and a selector, by document 01's listing of its 32 bytes.
use Rattle.std.specs.Prelude.{ℕ, zero, suc, ◌+◌, ◌*◌, ◌/◌, ◌%◌, ◌^◌, List, [], ◌∷◌, ◌++◌, replicate}
use Rattle.octets.specs.Bytes.{be_bytes}

-- the lowest k bits of a number in reversed order
unfoldable pub reverse_bits : ℕ → ℕ → ℕ
reverse_bits zero n = 0
reverse_bits (suc k) n = n % 2 * 2 ^ k + reverse_bits k (n / 2)

-- bytes 0 and 1: the number modulo 65,536; bytes 2 to 7: the number divided by 65,536, as 48 bits in reversed order;
-- bytes 8 to 30: zero; byte 31: the selector
unfoldable pub id_of : ℕ → ℕ → List ℕ
id_of selector number =
    be_bytes 2 (number % 65536)
    ++ be_bytes 6 (reverse_bits 48 (number / 65536))
    ++ replicate 23 0
    ++ (selector ∷ [])
