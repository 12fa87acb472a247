-- Reading a list of records: empty where it has no bytes. Otherwise it starts with one offset for each record, counted from the list's
-- start: the first is four times the number of records and at least 4, none is smaller than the one before, none passes the list's end.
use Rattle.std.specs.Prelude.{ℕ, zero, suc, ◌-◌, ◌/◌, ◌%◌, Bool, cond, ◌&&◌, List, [], ◌∷◌, eqb, leb, length, take, drop}
use Rattle.std.proofs.Math.Option.{Option, some, none}
use Rattle.octets.specs.Bytes.{le}

-- the number that the first four bytes stand for
unfoldable pub offset_of : List ℕ → ℕ
offset_of s = le (take 4 s)

-- the first n offsets of a list
unfoldable pub offsets_of : ℕ → List ℕ → List ℕ
offsets_of zero s = []
offsets_of (suc n) s = offset_of s ∷ offsets_of n (drop 4 s)

-- the offsets of a list that has bytes start with one that says how many there are
unfoldable pub count_of : List ℕ → ℕ
count_of s = offset_of s / 4

-- all offsets of a list, none where it has no bytes
unfoldable pub offsets_in : List ℕ → List ℕ
offsets_in s = offsets_of (count_of s) s

-- none is smaller than the one before, and none passes the end
unfoldable pub ordered : ℕ → List ℕ → Bool
ordered end [] = Bool.true
ordered end (a ∷ []) = leb a end
ordered end (a ∷ b ∷ os) = leb a b && ordered end (b ∷ os)

-- the records between the offsets, the last one up to the list's end
unfoldable pub between : List ℕ → List ℕ → List (List ℕ)
between s [] = []
between s (a ∷ []) = drop a s ∷ []
between s (a ∷ b ∷ os) = take (b - a) (drop a s) ∷ between s (b ∷ os)

-- the layout of a list that has bytes
unfoldable pub laid_out : List ℕ → Bool
laid_out s =
    leb 4 (length s)
    && leb 4 (offset_of s)
    && eqb (offset_of s % 4) 0
    && leb (offset_of s) (length s)
    && ordered (length s) (offsets_of (count_of s) s)

unfoldable pub records_of : List ℕ → Option (List (List ℕ))
records_of [] = some []
records_of (x ∷ s) = cond (laid_out (x ∷ s)) (some (between (x ∷ s) (offsets_of (count_of (x ∷ s)) (x ∷ s)))) none
