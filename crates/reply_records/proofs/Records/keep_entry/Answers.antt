-- `reply_records::Records::keep_entry` meets its contract. Assumes nothing.
use Rattle.reply_records.proofs.Slotted.{keeps_as}
use Rattle.reply_records.proofs.Records.keep_entry.Goals as goal

pub returns : goal.returns
returns c = (c.front.ensures.size, c.keep.ensures.0, keeps_as c.front.ensures.part c.keep.ensures.1)
