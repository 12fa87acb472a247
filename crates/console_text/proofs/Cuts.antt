-- Laws of the words of a line. Assumes nothing.
use Rattle.std.proofs.Common.{ℕ, zero, suc, ◌+◌, ◌-◌, List, [], ◌∷◌, Bool, true, false, cond, not, ◌≡◌, ◌==◌, refl, ap, sym, subst, ◌∙◌, length, take, drop, arith, Option, Some, None, MatchOption, position, ltb}
use Rattle.std.proofs.lemmas.List.Sums.{prefix_len-le-length}
use borrow.Author.Tests.{ltb-false}
use Rattle.console_text.specs.Words.{word_end, words_in}

-- a word, where some are left
pub one_word : (n : ℕ) (s : List ℕ) → (n ≡ 0 → ⊥) → words_in n s ≡ take (word_end s) s ∷ words_in (n - 1) (drop (word_end s + 1) s)
one_word zero s h = absurd (h refl)
one_word (suc n) s h = ap (λ (k : ℕ). take (word_end s) s ∷ words_in k (drop (word_end s + 1) s)) (omega arith)

-- so many words
pub length_words : (n : ℕ) (s : List ℕ) → length (words_in n s) ≡ n
length_words zero s = refl
length_words (suc n) s = ap suc (length_words n (drop (word_end s + 1) s))

-- no words are left where none are counted, and only there
pub none_left : (n : ℕ) (s : List ℕ) → words_in n s ≡ [] → n ≡ 0
none_left n s e = sym (length_words n s) ∙ ap length e

-- where a word ends: at the place that std finds, or with the text
pub found : (o : Option ℕ) (s : List ℕ) → o ≡ position (λ c. c == 32) s → MatchOption o (word_end s ≡ length s) (λ n. word_end s ≡ n)
found o s is = subst (λ (p : Option ℕ). MatchOption p (word_end s ≡ length s) (λ n. word_end s ≡ n)) (sym is) (go (ltb (word_end s) (length s)) refl)
  where
    go : (t : Bool) → ltb (word_end s) (length s) ≡ t → MatchOption (cond t (Some (word_end s)) None) (word_end s ≡ length s) (λ k. word_end s ≡ k)
    go true e = refl
    go false e = let end = ltb-false (word_end s) (length s) e in omega (arith, prefix_len-le-length (λ c. not (c == 32)) s)
