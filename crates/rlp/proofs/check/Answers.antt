-- `rlp::check` meets its contract: content is refused as its header is, and a whole header lies in the content. Assumes nothing.
use mathlib.Core.Path.{◌≡◌, sym, ap, ◌∙◌}
use borrow.Author.Rules.{rules}
use Rattle.std.specs.Prelude.{Err}
use Rattle.refusal.specs.Outcome.{outcome_of}
use Rattle.refusal.proofs.Outcomes.{was_given, was_refused}
use Rattle.rlp.proofs.Cases.{refused_begun, whole_begun, content_by_lem}
use Rattle.rlp.proofs.Headers.{header_within}
use Rattle.rlp.proofs.check.Goals as goal

pub returns-in_err-payload : goal.returns-in_err-payload
returns-in_err-payload c = let e = was_refused _ c.header_in.ensures c.in_err-payload.was in
    let k : c.from_residual.result ≡ Err c.in_err-payload.field-0.0 = search rules in
    ap outcome_of k ∙ refused_begun _ e

pub overflow_sub-content : goal.overflow_sub-content
overflow_sub-content c = (header_within _ _ (whole_begun _ (was_given _ c.header_in.ensures c.in_ok-payload.was))).all

pub returns : goal.returns
returns c =
    c.filling.ensures ∙ sym (content_by_lem _ _ (whole_begun _ (was_given _ c.header_in.ensures c.in_ok-payload.was)))
