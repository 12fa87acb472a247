-- `key_lines::id_line` meets its contract: `encode` leaves the id's 64 digits before the last line feed.
-- Assumes nothing.
use Rattle.std.proofs.Common.{rules}
use Rattle.key_lines.proofs.Answers.{id_text}
use Rattle.key_lines.proofs.id_line.Goals as goal

pub returns-clause-value : goal.returns-clause-value
returns-clause-value c = id_text c.args.id _ (search rules) c.encode.ensures.out_after
