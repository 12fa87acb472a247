-- What the check does not find alone of `loading::load`; the invariant beside it says how the loop goes. Assumes nothing.
use Prim.Native.Nat.{ℕ, ◌+◌}
use mathlib.Core.Path.{sym, ap, ◌∙◌}
use borrow.Author.Rules.{rules}
use Rattle.refusal.proofs.Due.{due}
use Rattle.snapshot.specs.Load.{bad_line}
use Rattle.snapshot.specs.Parts.{line_with}
use Rattle.snapshot.proofs.Turns.{first_bad, first_good, line_bad, line_good, too_long, all_read}
use Rattle.snapshot.proofs.loading.load.Goals as goal

pub returns-in_default : goal.returns-in_default
returns-in_default c = first_bad c.args.text.now (sym c.header_in.ensures ∙ c.in_default.is)

pub loop-i-init : goal.loop-i-init
loop-i-init c = (first_good c.args.text.now (sym c.header_in.ensures ∙ c.in-Some.is) c.args.keys.now c.requires, search rules)

pub returns-in_default-key_line : goal.returns-in_default-key_line
returns-in_default-key_line c =
    due (λ (n : ℕ). bad_line n) _ (c.loop-i.i + 2)
    (line_bad _ _ _ _ _ _ _ _ c.loop-i.invariant.0 c.loop-i-test.true (sym c.key_line.ensures ∙ ap (line_with c.key_line.new.key) c.in_default-key_line.is)) (search rules)

pub loop-i-preserved : goal.loop-i-preserved
loop-i-preserved c = (
  line_good _ _ _ _ _ _ _ _ c.loop-i.invariant.0 c.loop-i-test.true (sym c.key_line.ensures ∙ ap (line_with c.key_line.new.key) c.in-Some-key_line.is) _ c.put.ensures.out_after (search rules) (search rules),
  search rules,
)

pub returns-then-text-header : goal.returns-then-text-header
returns-then-text-header c = sym (too_long _ _ _ _ _ _ _ _ c.loop-i.invariant.0 c.loop-i-test.false c.if-text-header.true)

pub returns : goal.returns
returns c = sym (all_read _ _ _ _ _ _ _ _ c.loop-i.invariant.0 c.loop-i-test.false c.if-text-header.false)
