-- What the check does not find alone of `message_rules::all_different`; the invariant beside it says how the loop goes. Assumes nothing.
use native.Mathlib.Omega.{arith}
use mathlib.Core.Path.{sym, ◌∙◌}
use borrow.Author.Rules.{rules}
use Rattle.octets.proofs.Numbers.{bytes_all}
use Rattle.message_rules.proofs.Flags.{fresh_first, fresh_bad, fresh_next, fresh_end}
use Rattle.message_rules.proofs.all_different.Goals as goal

pub loop-byte-init : goal.loop-byte-init
loop-byte-init c =
    let s = c.args.bytes.now in
    (search rules, fresh_first s (bytes_all s (λ i. omega (arith, c.type_inv.bytes i))))

pub returns-then-seen-i : goal.returns-then-seen-i
returns-then-seen-i c =
    sym (c.loop-byte.invariant.1 ∙ fresh_bad _ _ _ c.loop-byte-test.true c.from-i.ensures c.if-seen-i.true)

pub loop-byte-preserved : goal.loop-byte-preserved
loop-byte-preserved c =
    (search rules, fresh_next _ _ _ c.loop-byte-test.true c.from-i.ensures c.if-seen-i.false c.loop-byte.invariant.1)

pub returns : goal.returns
returns c = sym (c.loop-byte.invariant.1 ∙ fresh_end _ _ _ c.loop-byte-test.false)
