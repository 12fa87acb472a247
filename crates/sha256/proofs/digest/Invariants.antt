-- `sha256::digest` meets its contract. The invariant: the bytes so far are those of the words so far, and the others zeros. Assumes nothing.
use Prim.Native.Nat.{◌*◌, ◌-◌}
use mathlib.Core.Path.{◌≡◌}
use mathlib.Core.List.{◌++◌}
use lib.ListN.{length, take, replicate}
use Rattle.sha256.specs.Hash.{word_bytes}
use Rattle.sha256.proofs.digest.Given as goal

abbrev pub invariant-loop-i : goal.invariant-loop-i
invariant-loop-i l = (length l.out ≡ 32) × (l.out ≡ word_bytes (take l.i l.word-items) ++ replicate (32 - 4 * l.i) 0)
