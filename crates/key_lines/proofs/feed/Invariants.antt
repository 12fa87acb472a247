-- `key_lines::feed` meets its contract. The invariant: the line's parts stand for the text with the characters of the part so far.
-- Assumes nothing.
use Rattle.std.proofs.Common.{ℕ, List, ◌++◌, take}
use Rattle.key_lines.specs.State.{Begun}
use Rattle.key_lines.proofs.feed.Given as goal

abbrev pub invariant-loop-c : goal.invariant-loop-c
invariant-loop-c l = (text : List ℕ) → Begun (record { first = l.initial.first; len = l.initial.len; bad = l.initial.bad }) text
    → Begun (record { first = l.first; len = l.len; bad = l.bad }) (text ++ take l.c-index l.part)
