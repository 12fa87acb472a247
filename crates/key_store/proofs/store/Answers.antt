-- `key_store::store` meets its contract: a verdict says what the call comes to, and a key that fits is put. Assumes nothing.
use mathlib.Core.Path.{◌≡◌, sym, ap, ◌∙◌}
use borrow.Author.Rules.{rules}
use Rattle.std.specs.Prelude.{Err}
use Rattle.key_store.specs.Answer.{given_by, meaning_of}
use Rattle.key_store.proofs.store.Goals as goal

pub put-requires : goal.put-requires
put-requires c = c.judge.ensures.fits _ c.in_ok-fitting.was

pub returns-in_err-fitting : goal.returns-in_err-fitting
returns-in_err-fitting c =
    let k : c.from_residual.result ≡ Err c.in_err-fitting.field-0.0 = search rules in
    ap (λ r. meaning_of r c.args.index.now) k ∙ ap (given_by c.args.index.now) (sym (c.judge.ensures.refuses _ c.in_err-fitting.was))

pub returns : goal.returns
returns c = c.put.ensures ∙ ap (given_by c.args.index.now) (sym (c.judge.ensures.puts _ c.in_ok-fitting.was))
