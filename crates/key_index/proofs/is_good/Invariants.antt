-- `key_index::is_good` meets its contract. The invariant is `Scan` (`proofs/Scan.antt`), whose laws on a turn, named in the
-- source, answer the other returns and the next turn. The measure is what is left of the count. Assumes nothing.
use Prim.Native.Nat.{◌-◌}
use Rattle.key_index.specs.View.{key_limit}
use Rattle.key_index.proofs.Scan.{Scan}
use Rattle.key_index.proofs.is_good.Given as goal

abbrev pub invariant-loop-i : goal.invariant-loop-i
invariant-loop-i l = Scan key_limit l.node l.cap l.keys l.count l.last l.i

abbrev pub decreases-loop-i : goal.decreases-loop-i
decreases-loop-i l = l.count - l.i
