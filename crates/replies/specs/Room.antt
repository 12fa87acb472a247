-- What one message can hold: at most 32 records, and at most 1,280 bytes with the message's head, which has some bytes of its own. A record
-- takes four bytes besides its own.
use Rattle.std.specs.Prelude.{ℕ, ◌+◌, ◌*◌, Bool, ◌&&◌, List, leb, length}
use Rattle.message.specs.Encode.{joined}

-- the bytes of a message with a head of some bytes and these records
abbrev pub bytes_with : ℕ → List (List ℕ) → ℕ
bytes_with head records = head + (4 * length records + length (joined records))

unfoldable pub room : ℕ → List (List ℕ) → Bool
room head records = leb (length records) 32 && leb (bytes_with head records) 1280
