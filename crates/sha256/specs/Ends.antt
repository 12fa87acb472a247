-- What the code makes of the end of a message.
use Rattle.std.specs.Prelude.{ℕ, ◌-◌, ◌*◌, ◌/◌, ◌%◌, List, [], ◌∷◌, ◌++◌, length, drop, replicate}

-- what a message has behind the blocks that it fills
abbrev pub rest : List ℕ → List ℕ
rest m = drop (length m / 64 * 64) m

-- the block that the message ends in: the rest, the first byte of the padding, and zeros
abbrev pub begun : List ℕ → List ℕ
begun m = rest m ++ (128 ∷ []) ++ replicate (63 - length m % 64) 0
