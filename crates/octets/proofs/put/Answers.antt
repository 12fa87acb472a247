-- What the check does not find alone of `octets::put`; the invariant beside it says how the loop goes. Assumes nothing.
use native.Mathlib.Omega.{arith}
use mathlib.Core.Path.{◌∙◌}
use lib.Seq.{paste-zero}
use borrow.Author.Rules.{rules}
use Rattle.octets.proofs.Buffers.{placed_all, pasted_next}
use Rattle.octets.proofs.put.Goals as goal

pub loop-i-init : goal.loop-i-init
loop-i-init c = paste-zero c.args.out.now c.args.at c.args.bytes.now

pub loop-i-preserved : goal.loop-i-preserved
loop-i-preserved c =
    let a = c.args in
    pasted_next c.loop-i.out a.out.now a.bytes.now a.at c.loop-i.i _ (omega arith) (omega arith) (search rules) c.loop-i.invariant

pub returns-clause-out_after : goal.returns-clause-out_after
returns-clause-out_after c =
    let a = c.args in c.loop-i.invariant ∙ placed_all a.out.now a.at a.bytes.now c.loop-i.i (omega arith) (omega arith)
