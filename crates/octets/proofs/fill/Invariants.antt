-- `octets::fill` meets its contract. The invariant: the bytes passed are those from the place on, the rest are as they began. Assumes nothing.
use Rattle.std.proofs.Common.{◌≡◌, length}
use lib.Seq.{paste}
use Rattle.octets.specs.Parts.{bytes_at}
use Rattle.octets.proofs.fill.Given as goal

abbrev pub invariant-loop-i : goal.invariant-loop-i
invariant-loop-i l =
    (length l.out ≡ length l.initial.out) × (l.out ≡ paste l.initial.out 0 (bytes_at (length l.initial.out) l.from l.bytes) l.i)
