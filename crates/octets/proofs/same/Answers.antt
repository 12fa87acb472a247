-- What the check does not find alone of `octets::same`; the invariants beside it say how the loop goes. Assumes nothing.
use native.Mathlib.Omega.{arith}
use mathlib.Core.Path.{sym, ◌∙◌}
use borrow.Author.Rules.{rules}
use Rattle.octets.proofs.Equal.{differ_length, same_here, same_later, same_end}
use Rattle.octets.proofs.same.Goals as goal

pub returns-then-a-b : goal.returns-then-a-b
returns-then-a-b c = let a = c.args in sym (differ_length a.a.now a.b.now (λ e. omega (arith, c.if-a-b.true)))

pub returns-then-a-i : goal.returns-then-a-i
returns-then-a-i c =
    let a = c.args in
    let i = c.loop-i.invariant in
    sym (i.1.1.1 ∙ same_here a.a.now a.b.now i.1.1.0 c.loop-i.i (search rules) (λ e. omega (arith, c.if-a-i.true)))

pub loop-i-preserved : goal.loop-i-preserved
loop-i-preserved c =
    let a = c.args in
    let i = c.loop-i.invariant in
    (search rules, (i.1.0, (i.1.1.0, i.1.1.1 ∙ same_later a.a.now a.b.now i.1.1.0 c.loop-i.i (search rules) (omega (arith, c.if-a-i.false)))))

pub returns : goal.returns
returns c =
    let a = c.args in
    let i = c.loop-i.invariant in
    sym (i.1.1.1 ∙ same_end a.a.now a.b.now i.1.1.0 c.loop-i.i (search rules))
