-- What `encode` and `decode` answer, and what they leave in the buffer lent to them.
use Rattle.std.specs.Prelude.{ℕ, cond, List, ◌++◌, leb, length, drop, Option, Some, None, Result, Ok, Err}
use Rattle.octets.specs.Buffer.{placed}
use Rattle.hexadecimal.specs.Digits.{text_of, bytes_of}
use Rattle.hexadecimal.specs.declared.DecodeError.{DecodeError}
use Rattle.hexadecimal.specs.declared.DecodeError.TheVariants.{NotHex, NoRoom}

-- the answer for the bytes that a text stands for, and a buffer of this length: how many, or an error
abbrev pub decoded_to : Option (List ℕ) → ℕ → Result ℕ DecodeError
decoded_to None room = Err NotHex
decoded_to (Some bytes) room = cond (leb (length bytes) room) (Ok (length bytes)) (Err NoRoom)

-- the buffer with those bytes at its start, or as it was where they are none or have no room
abbrev pub filled : Option (List ℕ) → List ℕ → List ℕ
filled None out = out
filled (Some bytes) out = cond (leb (length bytes) (length out)) (bytes ++ drop (length bytes) out) out

abbrev pub encoded_to : List ℕ → List ℕ → ℕ → List ℕ
encoded_to bytes out at = placed out at (text_of bytes)

abbrev pub decoded_of : List ℕ → List ℕ → Result ℕ DecodeError
decoded_of text out = decoded_to (bytes_of text) (length out)

abbrev pub filled_of : List ℕ → List ℕ → List ℕ
filled_of text out = filled (bytes_of text) out
