-- Reading has one answer: the bytes and the outcome that an answer stands for fix every field of it. Assumes nothing.
use Prim.Native.Nat.{ℕ}
use mathlib.Core.Path.{◌≡◌, sym, ◌∙◌}
use mathlib.Core.List.{List}
use Rattle.std.specs.Prelude.{Result}
use Rattle.refusal.specs.Outcome.{Outcome}
use Rattle.refusal.specs.declared.Refusal.{Refusal}
use Rattle.refusal.proofs.Buffers.{outcome_inj}
use Rattle.message.specs.Values.{Message}
use Rattle.message.specs.Reading.{ReadTo}
use Rattle.message.specs.declared.Reading.{Reading}

-- two answers that stand for one outcome of the same bytes are equal in every field
pub one_answer : {d : Outcome Message} {s : List ℕ} {a b : Result Reading Refusal} → ReadTo d s a → ReadTo d s b → a ≡ b
one_answer {a = a} {b = b} p q = outcome_inj a b (p.report ∙ sym q.report)
