-- What a caller learns of an outcome once it has matched on the answer, and of two refusals that are one.
-- Assumes nothing.
use Prim.Native.Nat.{ℕ}
use native.Mathlib.Omega.{arith}
use mathlib.Core.Path.{◌≡◌, sym, ◌∙◌, ap}
use Rattle.std.specs.Prelude.{Result, Ok, Err}
use Rattle.refusal.specs.Says.{Said, says_of}
use Rattle.refusal.specs.Outcome.{Outcome, given, refusal, outcome_of}
use Rattle.refusal.specs.declared.Refusal.{Refusal}

module _ {A : Type 0} (answer : Result A Refusal) {o : Outcome A} (is : outcome_of answer ≡ o) where
  -- an accepted answer stands for its value
  pub was_given : {a : A} → answer ≡ Ok a → given a ≡ o
  was_given e = ap outcome_of (sym e) ∙ is

  -- a refused one stands for what it says
  pub was_refused : {why : Refusal} → answer ≡ Err why → refusal (says_of why) ≡ o
  was_refused e = ap outcome_of (sym e) ∙ is

-- a value is no refusal
pub given_not : {A B : Type 0} {a : A} {says : Said} → given a ≡ refusal says → B
given_not e = absurd (let z : ◌≡◌ {A = ℕ} 0 1 = cc in omega arith)
