-- What a call that writes into a buffer lent to it answers, and what it leaves in the buffer.
use Rattle.std.specs.Prelude.{ℕ, ◌≡◌, List, ◌++◌, length, drop, Result}
use Rattle.refusal.specs.Outcome.{Outcome, given, refusal, outcome_of}
use Rattle.refusal.specs.declared.Refusal.{Refusal}

-- how many bytes, or the refusal
abbrev pub counted : Outcome (List ℕ) → Outcome ℕ
counted (given bytes) = given (length bytes)
counted (refusal says) = refusal says

-- the buffer afterwards: the bytes followed by the old ones, or the old buffer, byte for byte
abbrev pub written : Outcome (List ℕ) → List ℕ → List ℕ
written (given bytes) out = bytes ++ drop (length bytes) out
written (refusal says) out = out

-- an answer, how many bytes were written or a refusal, and a buffer, before and after a call that is to write these bytes
pub record Writes (bytes : Outcome (List ℕ)) (answer : Result ℕ Refusal) (before after : List ℕ) : Type 0 where
  pub answered : outcome_of answer ≡ counted bytes
  pub buffer : after ≡ written bytes before
