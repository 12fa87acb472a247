-- What the steps of reading a list of records come to: its count and its offsets.
use Rattle.std.specs.Prelude.{ℕ, Option, Some, None, cond, List, [], ◌∷◌, length, get_or}
use Rattle.message.specs.Records.{offsets_of, count_of, laid_out}

-- the number of records of a list, if its layout is right
unfoldable pub laid_count : List ℕ → Option ℕ
laid_count [] = Some 0
laid_count (x ∷ l) = cond (laid_out (x ∷ l)) (Some (count_of (x ∷ l))) None

-- the offset of a record, or past the last record the list's size, where the last one ends
unfoldable pub offset_at : List ℕ → ℕ → ℕ → ℕ
offset_at l count i = get_or (offsets_of count l) i (length l)
