-- A buffer that bytes are put into.
use Rattle.std.specs.Prelude.{ℕ, ◌+◌, ◌-◌, Bool, cond, ◌&&◌, List, ◌++◌, leb, length, take, drop}

-- the bytes have room in the buffer from a place on
abbrev pub has_room : List ℕ → ℕ → List ℕ → Bool
has_room out at bytes = leb at (length out) && leb (length bytes) (length out - at)

-- the buffer with the bytes from that place on, or as it was where they have no room
abbrev pub placed : List ℕ → ℕ → List ℕ → List ℕ
placed out at bytes = cond (has_room out at bytes) (take at out ++ bytes ++ drop (at + length bytes) out) out
