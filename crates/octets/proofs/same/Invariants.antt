-- `octets::same` meets its contract. The invariant: the test of the whole is the test of what is left; a byte that differs decides it, an
-- equal one leaves it to the rest. The measure is what is left of the first. Assumes nothing.
use Prim.Native.Nat.{◌-◌, ◌≤◌}
use mathlib.Core.Path.{◌≡◌}
use lib.ListN.{length, drop}
use Rattle.octets.specs.Equal.{same_bytes}
use Rattle.octets.proofs.same.Given as goal

abbrev pub invariant-loop-i : goal.invariant-loop-i
invariant-loop-i l = (l.i ≤ length l.a) × ((l.i-end ≡ length l.a) × ((length l.a ≡ length l.b) × (same_bytes l.a l.b ≡ same_bytes (drop l.i l.a) (drop l.i l.b))))

abbrev pub decreases-loop-i : goal.decreases-loop-i
decreases-loop-i l = length l.a - l.i
