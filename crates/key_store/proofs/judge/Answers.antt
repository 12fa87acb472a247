-- `key_store::judge` meets its contract: each way out is a case of the definition (`proofs/Answers.antt`). Assumes nothing.
use Prim.Native.Nat.{ℕ}
use mathlib.Core.Path.{◌≡◌, refl, sym, ◌∙◌}
use borrow.Author.Rules.{rules}
use Rattle.std.specs.Prelude.{Err}
use Rattle.refusal.specs.Says.{only}
use Rattle.refusal.proofs.Due.{due}
use Rattle.refusal.proofs.Outcomes.{was_given, was_refused}
use Rattle.key_index.specs.View.{key_limit, view}
use Rattle.key_store.specs.Store.{refused, admit_of}
use Rattle.key_store.proofs.Answers.{store_bad, store_key, store_content, store_admit}
use Rattle.key_store.proofs.Verdicts.{refused_says, says_as}
use Rattle.key_store.proofs.judge.Goals as goal

pub returns-then-not-is_good : goal.returns-then-not-is_good
returns-then-not-is_good c =
    let a = c.args in
    refused_says key_limit _ _ _ refl
    (due (λ (n : ℕ). refused (only n)) _ 0
    (store_bad key_limit (view a.index.now) a.bytes.now a.content.now a.newest (sym c.is_good.ensures ∙ c.if-not-is_good.true)) (search rules))

pub returns-in_err-key : goal.returns-in_err-key
returns-in_err-key c =
    let a = c.args in
    let k : c.from_residual.result ≡ Err c.in_err-key.field-0.0 = search rules in
    refused_says key_limit _ _ _ k
    (store_key key_limit (view a.index.now) a.bytes.now a.content.now a.newest _ (sym c.is_good.ensures ∙ c.if-not-is_good.false) (was_refused _ c.key.ensures c.in_err-key.was))

pub returns-in_err-payload : goal.returns-in_err-payload
returns-in_err-payload c =
    let a = c.args in
    let k : c.from_residual-in_err-payload.result ≡ Err c.in_err-payload.field-0.0 = search rules in
    refused_says key_limit _ _ _ k
    (store_content key_limit (view a.index.now) a.bytes.now a.content.now a.newest _ _ (sym c.is_good.ensures ∙ c.if-not-is_good.false) (was_given _ c.key.ensures c.in_ok-key.was)
    (was_refused _ c.examine.ensures c.in_err-payload.was))

pub admit-requires : goal.admit-requires
admit-requires c = sym c.is_good.ensures ∙ c.if-not-is_good.false

pub returns : goal.returns
returns c =
    let a = c.args in
    says_as key_limit _ _ _ c.admit.ensures
    (due (admit_of key_limit (view a.index.now) c.in_ok-key.key) _ c.in_ok-payload.payload
    (store_admit key_limit (view a.index.now) a.bytes.now a.content.now a.newest _ _ (sym c.is_good.ensures ∙ c.if-not-is_good.false) (was_given _ c.key.ensures c.in_ok-key.was)
    (was_given _ c.examine.ensures c.in_ok-payload.was)) (search rules))
