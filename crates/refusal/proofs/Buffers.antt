-- A call that writes into a buffer has one answer, and leaves one buffer. Assumes nothing.
use Prim.Native.Nat.{ℕ}
use mathlib.Core.Path.{◌≡◌, sym, ap, ◌∙◌}
use mathlib.Core.List.{List}
use Rattle.std.specs.Prelude.{Result, Ok, Err}
use Rattle.refusal.specs.Outcome.{Outcome, outcome_of}
use Rattle.refusal.specs.Buffer.{Writes}
use Rattle.refusal.specs.declared.Refusal.{Refusal}
use Rattle.refusal.proofs.Says.{says_inj}

-- an answer is told by what it stands for
pub outcome_inj : {A : Type 0} (r q : Result A Refusal) → outcome_of r ≡ outcome_of q → r ≡ q
outcome_inj (Ok a) (Ok b) e = ap Ok (cc)
outcome_inj (Ok a) (Err why) e = cc
outcome_inj (Err why) (Ok b) e = cc
outcome_inj (Err a) (Err b) e = ap Err (says_inj a b (cc))

pub one_writing : {o : Outcome (List ℕ)} {r q : Result ℕ Refusal} {before a b : List ℕ} → Writes o r before a → Writes o q before b → (r ≡ q) × (a ≡ b)
one_writing {r = r} {q = q} w v = (outcome_inj r q (w.answered ∙ sym v.answered), w.buffer ∙ sym v.buffer)
