-- The words of a line, which one space separates.
use Rattle.std.specs.Prelude.{ℕ, zero, suc, ◌+◌, List, [], ◌∷◌, take, drop, eqb, count_by}
use Rattle.std.specs.List.{position_or_len}
use Rattle.console_text.specs.declared.words.Words.{Words}

-- how many characters come before the first space
abbrev pub word_end : List ℕ → ℕ
word_end s = position_or_len (λ c. eqb c 32) s

-- the first n words of a text that has so many
abbrev pub words_in : ℕ → List ℕ → List (List ℕ)
words_in zero s = []
words_in (suc n) s = take (word_end s) s ∷ words_in n (drop (word_end s + 1) s)

-- a line's words: one more than it has spaces
abbrev pub words_of : List ℕ → List (List ℕ)
words_of s = words_in (count_by (λ c. eqb c 32) s + 1) s

-- the words that are left
abbrev pub left_of : Words → List (List ℕ)
left_of w = words_in w.left w.rest.now
