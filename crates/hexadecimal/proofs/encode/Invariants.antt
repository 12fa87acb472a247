-- `hexadecimal::encode` meets its contract. The loop's invariant: the buffer has the first 2 * i characters of the text from `at` on.
-- Each turn is the law `put_text`, and each return a law on the room that the tests leave.
-- Assumes nothing.
use Prim.Native.Nat.{◌+◌, ◌*◌, ◌≤◌}
use mathlib.Core.Path.{◌≡◌}
use lib.ListN.{length}
use lib.Seq.{paste}
use Rattle.hexadecimal.specs.Digits.{text_of}
use Rattle.hexadecimal.proofs.encode.Given as goal

abbrev pub invariant-loop-i : goal.invariant-loop-i
invariant-loop-i l =
    (l.at + 2 * length l.bytes ≤ length l.initial.out)
    × (length l.out ≡ length l.initial.out)
    × (l.out ≡ paste l.initial.out l.at (text_of l.bytes) (2 * l.i))
