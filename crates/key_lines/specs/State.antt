-- What the state of a line that has begun says of the line's text so far.
use Rattle.std.specs.Prelude.{ℕ, ◌+◌, ◌-◌, ◌%◌, ◌≤◌, ◌<◌, ◌≡◌, cond, not, List, ◌++◌, leb, length, take, drop}
use Rattle.hexadecimal.specs.Digits.{all_digits}
use Rattle.key_lines.specs.Lines.{printed_from, begun_by}
use Rattle.key_lines.specs.declared.Line.{Line}
use Rattle.key_lines.specs.declared.Listed.{Listed}

-- a length of at most 18, or 19 for any longer odd one and 20 for any longer even one
abbrev pub capped : ℕ → ℕ
capped n = cond (leb n 18) n (20 - n % 2)

-- the state stands for a line that has begun with this text
pub record Begun (line : Line) (text : List ℕ) : Type 0 where
  pub size : length line.first ≡ 18
  pub count : line.len ≡ capped (length text)
  pub kept : take (length (take 18 text)) line.first ≡ take 18 text
  pub digits : line.bad ≡ not (all_digits text)

-- what a call of `list` does with an input and a buffer: the lines of the part that it used are printed at the buffer's start, and it
-- stops before the end only where a longest line, 65 bytes, has no room left
pub record Lists (line : Line) (input before after : List ℕ) (answer : Listed) : Type 0 where
  pub inside : answer.used ≤ length input
  pub stops : answer.used < length input → length before < answer.written + 65
  pub moves : 0 < length input → 65 ≤ length before → 0 < answer.used
  pub begun : (text : List ℕ) → Begun line text → Begun answer.line (begun_by text (take answer.used input))
  pub written : (text : List ℕ) → Begun line text → answer.written ≡ length (printed_from text (take answer.used input))
  pub printed : (text : List ℕ) → Begun line text
      → after ≡ printed_from text (take answer.used input) ++ drop answer.written before
  pub fits : answer.written ≤ length before
  pub kept : length after ≡ length before

-- from the line `from` the part was taken and `printed` written, which leaves the line `to`
pub record Step (from : Line) (part printed : List ℕ) (to : Line) : Type 0 where
  pub prints : (text : List ℕ) → Begun from text → printed ≡ printed_from text part
  pub begins : (text : List ℕ) → Begun from text → Begun to (begun_by text part)
