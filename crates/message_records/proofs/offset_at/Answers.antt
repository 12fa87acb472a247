-- `message_records::offset_at` meets its contract: an offset stands at its four bytes in the list, and past the last one the answer is
-- the size (`proofs/Offsets.antt`). Assumes nothing.
use mathlib.Core.Path.{◌∙◌}
use Rattle.message_records.proofs.Offsets.{offset_here, offset_end}
use Rattle.message_records.proofs.offset_at.Goals as goal

pub returns-then-i-count : goal.returns-then-i-count
returns-then-i-count c = c.offset.ensures.0 ∙ offset_here _ _ _ c.if-i-count.true

pub returns-else-i-count : goal.returns-else-i-count
returns-else-i-count c = offset_end _ _ _ c.if-i-count.false
