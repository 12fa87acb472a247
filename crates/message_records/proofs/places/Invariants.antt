-- `message_records::places` meets its contract. The invariant: the first i cells of both arrays are filled, the others are zeros. No offset is above
-- the next or the size, so nothing wraps (`proofs/Offsets.antt`); what is filled are the records' places (`proofs/Filled.antt`). Assumes nothing.
use Rattle.message_records.proofs.Filled.{Filled, start_of, len_of}
use Rattle.message_records.proofs.places.Given as goal

abbrev pub invariant-loop-i : goal.invariant-loop-i
invariant-loop-i l = Filled (start_of l.list l.base l.count) l.i l.starts × Filled (len_of l.list l.count) l.i l.lens
