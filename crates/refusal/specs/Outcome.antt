-- What a call that can be refused comes to: a value, or what its refusal says.
use Rattle.std.specs.Prelude.{ℕ, Result, Ok, Err}
use Rattle.refusal.specs.Says.{Said, only, says_of}
use Rattle.refusal.specs.declared.Refusal.{Refusal}

pub data Outcome (A : Type 0) : Type 0 where
  given : A → Outcome A
  refusal : Said → Outcome A

-- refused with a number
abbrev pub refused : {A : Type 0} → ℕ → Outcome A
refused n = refusal (only n)

-- the outcome that an answer of the code stands for
abbrev pub outcome_of : {A : Type 0} → Result A Refusal → Outcome A
outcome_of (Ok a) = given a
outcome_of (Err why) = refusal (says_of why)

-- f of the value, or the same refusal
abbrev pub map_outcome : {A B : Type 0} → (A → B) → Outcome A → Outcome B
map_outcome f (given a) = given (f a)
map_outcome f (refusal says) = refusal says
