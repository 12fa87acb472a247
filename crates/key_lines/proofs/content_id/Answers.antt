-- `key_lines::content_id` meets its contract: each test that led to an answer is a law of what the line's text stands for
-- (`proofs/Answers.antt`). Assumes nothing.
use Rattle.std.proofs.Common.{rules, ap, ◌∙◌, arith}
use Rattle.content_key.specs.Key.{content_id_of}
use Rattle.key_lines.proofs.Answers.{other_char, odd_text, wrong_length, nine_bytes}
use Rattle.key_lines.proofs.content_id.Goals as goal

pub returns-then-line : goal.returns-then-line
returns-then-line c = λ text b. other_char _ text b c.if-line.true

pub returns-then-line-ne0 : goal.returns-then-line-ne0
returns-then-line-ne0 c = λ text b. odd_text _ text b (omega arith)

pub returns-then-line-ne18 : goal.returns-then-line-ne18
returns-then-line-ne18 c = λ text b. wrong_length _ text b c.if-line.false (search rules) c.if-line-ne18.true

pub returns : goal.returns
returns c = λ text b.
    c.content_id.ensures ∙ ap content_id_of c.decode.ensures.out_after ∙ nine_bytes _ text b c.if-line.false c.if-line-ne18.false
