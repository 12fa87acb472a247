-- What the check does not find alone of `key_index::is_good`; the invariants beside it say how the loop goes. Assumes nothing.
use borrow.Author.Rules.{rules}
use Rattle.key_index.proofs.Scan.{scan_start, scan_end}
use Rattle.key_index.proofs.is_good.Goals as goal

pub loop-i-init : goal.loop-i-init
loop-i-init c = scan_start _ _ _ _ _ _ (search rules)

pub returns : goal.returns
returns c = scan_end c.loop-i.invariant (search rules)
