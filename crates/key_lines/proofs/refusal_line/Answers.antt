-- `key_lines::refusal_line` meets its contract: the stores make the list that the definition gives for one digit, or for two.
-- Assumes nothing.
use Rattle.std.proofs.Common.{ℕ, List, ◌++◌, ◌/◌, ◌%◌, ◌+◌, slice_set, replicate, ◌∙◌, ap}
use Rattle.refusal.specs.Outcome.{refused}
use Rattle.key_lines.specs.Lines.{printed_of, padded}
use Rattle.key_lines.proofs.Answers.{one_digit, two_digits}
use Rattle.key_lines.proofs.refusal_line.Goals as goal

pub returns-then-n-lt10-clause-value : goal.returns-then-n-lt10-clause-value
returns-then-n-lt10-clause-value c =
    let n = c.from-n.result in
    one_digit _ _ c.if-n-lt10.true (ap (λ (t : List ℕ). slice_set (t ++ replicate 57 10) 8 (48 + n)) c.copy_from_slice.ensures.after)
    ∙ ap (λ (n : ℕ). padded (printed_of (refused n))) c.from-n.ensures

pub returns-clause-value : goal.returns-clause-value
returns-clause-value c =
    let n = c.from-n.result in
    two_digits _ _ c.if-n-lt10.false
    (ap (λ (t : List ℕ). slice_set (slice_set (t ++ replicate 57 10) 8 (48 + n / 10)) 9 (48 + n % 10)) c.copy_from_slice.ensures.after)
    ∙ ap (λ (n : ℕ). padded (printed_of (refused n))) c.from-n.ensures
