-- `key_remove::seek` meets its contract: each way out is a case of the definition (`proofs/Cases.antt`). Assumes nothing.
use Prim.Native.Nat.{ℕ}
use mathlib.Core.Path.{◌≡◌, refl, sym, ◌∙◌}
use borrow.Author.Rules.{rules}
use Rattle.std.specs.Prelude.{Err}
use Rattle.refusal.specs.Says.{only}
use Rattle.refusal.proofs.Due.{due}
use Rattle.refusal.proofs.Outcomes.{was_given, was_refused}
use Rattle.key_index.specs.View.{key_limit, view}
use Rattle.key_remove.specs.Remove.{refused}
use Rattle.key_remove.proofs.Cases.{remove_bad, remove_no_key, refused_seeks, sought_seeks}
use Rattle.key_remove.proofs.seek.Goals as goal

pub returns-then-not-is_good : goal.returns-then-not-is_good
returns-then-not-is_good c =
    let v = view c.args.index.now in
    refused_seeks key_limit v c.args.bytes.now refl
    (due (λ (n : ℕ). refused (only n)) _ 0 (sym (remove_bad key_limit v c.args.bytes.now (sym c.is_good.ensures ∙ c.if-not-is_good.true))) (search rules))

pub returns-in_err-key : goal.returns-in_err-key
returns-in_err-key c =
    let v = view c.args.index.now in
    let k : c.from_residual.result ≡ Err c.in_err-key.field-0.0 = search rules in
    refused_seeks key_limit v c.args.bytes.now k
    (sym (remove_no_key key_limit v c.args.bytes.now (sym c.is_good.ensures ∙ c.if-not-is_good.false) (was_refused _ c.key.ensures c.in_err-key.was)))

pub returns : goal.returns
returns c =
    sought_seeks key_limit (view c.args.index.now) c.args.bytes.now _ _ (sym c.is_good.ensures ∙ c.if-not-is_good.false)
    (was_given _ c.key.ensures c.in_ok-key.was) (search rules) c.ok_or.ensures.value (search rules)
