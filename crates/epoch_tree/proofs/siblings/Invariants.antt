-- `epoch_tree::siblings` meets its contract. The invariant: the array has the siblings below the height and then zeros, and those that are left
-- are the ones of the node at that height and of the nodes above it. Assumes nothing.
use Prim.Native.Nat.{◌<◌}
use mathlib.Core.Path.{◌≡◌}
use lib.ListN.{length}
use Rattle.epoch_tree.proofs.Branches.{Written}
use Rattle.epoch_tree.proofs.siblings.Given as goal

abbrev pub invariant-loop-height : goal.invariant-loop-height
invariant-loop-height l = (l.place < 8192) × (length l.out ≡ 15) × Written l.records l.position l.height l.place l.out
