-- What the steps of putting parts into a buffer say: bytes at a place, the size of the whole, and the offsets of records.
use Rattle.std.specs.Prelude.{ℕ, zero, suc, ◌+◌, ◌≤◌, ◌≡◌, cond, List, [], ◌++◌, ltb, length, get_or, take, drop}
use Rattle.refusal.specs.Outcome.{Outcome, given, refused}
use Rattle.message.specs.Encode.{offset}

-- the bytes stand in the buffer from a place on, and all else is as it was
pub record Put (before : List ℕ) (at : ℕ) (bytes after : List ℕ) : Type 0 where
  pub fits : at + length bytes ≤ length before
  pub kept : length after ≡ length before
  pub value : after ≡ take at before ++ bytes ++ drop (at + length bytes) before

-- a size that fits a message and the buffer, else 2 for more than 1,280 bytes, then 13 for more than there is room for
abbrev pub sized : ℕ → ℕ → Outcome ℕ
sized size room = cond (ltb 1280 size) (refused 2) (cond (ltb room size) (refused 13) (given size))

-- the sum of the first n lengths
unfoldable pub sum_to : List ℕ → ℕ → ℕ
sum_to lens zero = 0
sum_to lens (suc n) = sum_to lens n + get_or lens n 0

-- the offsets of the first n records of these lengths, where the first one starts at a place
unfoldable pub offsets_to : ℕ → List ℕ → ℕ → List ℕ
offsets_to first lens zero = []
offsets_to first lens (suc n) = offsets_to first lens n ++ offset (first + sum_to lens n)
