-- What the key lister prints: document 01's "The key lister".
use Rattle.std.specs.Prelude.{ℕ, suc, ◌+◌, ◌-◌, ◌/◌, ◌%◌, cond, List, [], ◌∷◌, ◌++◌, eqb, ltb, length, replicate, Option, Some, None}
use Rattle.refusal.specs.Says.{number_in}
use Rattle.refusal.specs.Outcome.{Outcome, given, refusal, refused}
use Rattle.hexadecimal.specs.Digits.{text_of, bytes_of}
use Rattle.content_key.specs.Key.{content_id_of}
use Rattle.key_lines.specs.declared.Printed.{Printed}

-- a number below 100 in decimal digits
abbrev pub decimal_of : ℕ → List ℕ
decimal_of n = cond (ltb n 10) ((48 + n) ∷ []) ((48 + n / 10) ∷ (48 + n % 10) ∷ [])

-- the line for an outcome, with its line feed: the id in 64 digits, or `refused`, a space and the number
abbrev pub printed_of : Outcome (List ℕ) → List ℕ
printed_of (given id) = text_of id ++ (10 ∷ [])
printed_of (refusal says) = (114 ∷ 101 ∷ 102 ∷ 117 ∷ 115 ∷ 101 ∷ 100 ∷ 32 ∷ []) ++ decimal_of (number_in says) ++ (10 ∷ [])

-- the outcome of a line's text: 15 where it is no hexadecimal, else that of its bytes as a key
abbrev pub decoded_id : Option (List ℕ) → Outcome (List ℕ)
decoded_id None = refused 15
decoded_id (Some bytes) = content_id_of bytes

-- what is printed for one line
unfoldable pub line_of : List ℕ → List ℕ
line_of text = printed_of (decoded_id (bytes_of text))

-- how many characters of the input come before its first line feed
unfoldable pub line_length : List ℕ → ℕ
line_length [] = 0
line_length (c ∷ input) = cond (eqb c 10) 0 (suc (line_length input))

-- what is printed for the lines that end in the input, where a line has begun with some text before it
unfoldable pub printed_from : List ℕ → List ℕ → List ℕ
printed_from begun [] = []
printed_from begun (c ∷ input) = cond (eqb c 10) (line_of begun ++ printed_from [] input) (printed_from (begun ++ (c ∷ [])) input)

-- the text of the line that the input leaves unended
unfoldable pub begun_by : List ℕ → List ℕ → List ℕ
begun_by begun [] = begun
begun_by begun (c ∷ input) = cond (eqb c 10) (begun_by [] input) (begun_by (begun ++ (c ∷ [])) input)

-- a last line without a line feed counts, unless it has no character
abbrev pub last_of : List ℕ → List ℕ
last_of [] = []
last_of (c ∷ text) = line_of (c ∷ text)

-- what is printed, in its array: line feeds fill up the 65 places
unfoldable pub padded : List ℕ → Printed
padded line = record { text = line ++ replicate (65 - length line) 10; len = length line }

-- the whole output for the whole input
abbrev pub output_of : List ℕ → List ℕ
output_of input = printed_from [] input ++ last_of (begun_by [] input)
