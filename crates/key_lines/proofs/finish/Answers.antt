-- `key_lines::finish` meets its contract: what `content_id` comes to is printed.
-- Assumes nothing.
use Rattle.std.proofs.Common.{List, ℕ, ap, ◌∙◌}
use Rattle.refusal.specs.Outcome.{Outcome}
use Rattle.key_lines.specs.Lines.{printed_of, padded, line_of}
use Rattle.key_lines.proofs.finish.Goals as goal

pub returns-in-Ok-clause-by_index : goal.returns-in-Ok-clause-by_index
unfolding line_of
returns-in-Ok-clause-by_index c = λ text b.
    c.id_line.ensures.value ∙ ap (λ (o : Outcome (List ℕ)). padded (printed_of o)) (c.in-Ok.ensures text b)

pub returns-in-Err-clause-by_index : goal.returns-in-Err-clause-by_index
unfolding line_of
returns-in-Err-clause-by_index c = λ text b.
    c.refusal_line.ensures.value ∙ ap (λ (o : Outcome (List ℕ)). padded (printed_of o)) (c.in-Err.ensures text b)
