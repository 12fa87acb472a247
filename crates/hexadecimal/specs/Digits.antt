-- Bytes as lower-case hexadecimal text, two digits a byte, and the text read back.
use Rattle.std.specs.Prelude.{ℕ, ◌+◌, ◌-◌, ◌*◌, ◌/◌, ◌%◌, Bool, true, false, cond, ◌&&◌, List, [], ◌∷◌, leb, ltb, Option, Some, None}

-- the digit for a number below 16: `0` to `9`, then `a` to `f`
abbrev pub digit_of : ℕ → ℕ
digit_of n = cond (ltb n 10) (48 + n) (87 + n)

-- the number that a character stands for, if it is `0` to `9` or `a` to `f`
unfoldable pub value_of : ℕ → Option ℕ
value_of c =
    cond (leb 48 c && leb c 57) (Some (c - 48))
    (cond (leb 97 c && leb c 102) (Some (c - 87))
    None)

-- bytes as text
abbrev pub text_of : List ℕ → List ℕ
text_of [] = []
text_of (b ∷ bs) = digit_of (b / 16) ∷ digit_of (b % 16) ∷ text_of bs

-- a byte of two digits in front of the bytes that follow it, where all of these are there
abbrev pub joined : Option ℕ → Option ℕ → Option (List ℕ) → Option (List ℕ)
joined (Some h) (Some l) (Some bs) = Some ((h * 16 + l) ∷ bs)
joined (Some h) (Some l) None = None
joined (Some h) None bs = None
joined None l bs = None

-- the bytes that a text stands for: none for an odd number of digits, or for another character
abbrev pub bytes_of : List ℕ → Option (List ℕ)
bytes_of [] = Some []
bytes_of (h ∷ []) = None
bytes_of (h ∷ l ∷ text) = joined (value_of h) (value_of l) (bytes_of text)

-- the character is a digit
abbrev pub is_digit : Option ℕ → Bool
is_digit (Some n) = true
is_digit None = false

-- the number of a digit, and 0 for another character
abbrev pub number_of : Option ℕ → ℕ
number_of (Some n) = n
number_of None = 0

-- every character of the text is a digit
abbrev pub all_digits : List ℕ → Bool
all_digits [] = true
all_digits (c ∷ text) = is_digit (value_of c) && all_digits text
