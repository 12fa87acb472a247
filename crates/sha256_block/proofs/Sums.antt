-- Sums of words and states built from them, with the parts and their equations apart. Assumes nothing.
use Rattle.std.proofs.Common.{◌≡◌, ℕ, ◌+◌, ◌%◌, ◌^◌, ◌∙◌, ap₂}
use Rattle.sha256_block.specs.declared.State.{State}
use Rattle.sha256_block.specs.Words.{◌⊞◌}

-- a sum of two words, each by an equation
pub sum_is : (x y x' y' r : ℕ) → r ≡ (x + y) % 2 ^ 32 → x ≡ x' → y ≡ y' → r ≡ x' ⊞ y'
unfolding ◌⊞◌
sum_is x y x' y' r is e f = is ∙ ap₂ (λ (v w : ℕ). (v + w) % 2 ^ 32) e f

-- two states are equal if their words are
pub state_is : (a a' b b' c c' d d' e e' f f' g g' h h' : ℕ)
    → a ≡ a' → b ≡ b' → c ≡ c' → d ≡ d' → e ≡ e' → f ≡ f' → g ≡ g' → h ≡ h'
    → ◌≡◌ {A = State}
    record { a = a; b = b; c = c; d = d; e = e; f = f; g = g; h = h }
    record { a = a'; b = b'; c = c'; d = d'; e = e'; f = f'; g = g'; h = h' }
state_is a a' b b' c c' d d' e e' f f' g g' h h' p q r s t u v w = cc
