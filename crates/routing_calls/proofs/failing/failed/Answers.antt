-- `routing_calls::failing::failed` meets its contract: each way out is a case of the definition (`proofs/Misses.antt`), by what the survey
-- tells (`proofs/Told.antt`). Assumes nothing.
use mathlib.Core.Path.{◌≡◌, sym, ap, ◌∙◌}
use borrow.Author.Rules.{rules}
use Rattle.std.specs.Prelude.{Result, Err}
use Rattle.distance.specs.Distance.{log_distance_of}
use Rattle.refusal.specs.declared.Refusal.{Refusal}
use Rattle.refusal.specs.declared.Refusal.TheVariants.{BadState}
use Rattle.routing_calls.specs.declared.Failure.{Failure}
use Rattle.routing_calls.specs.FailedFor.{given_by, meaning_of}
use Rattle.routing_calls.proofs.Told.{entry_used, newest_used}
use Rattle.routing_calls.proofs.Misses.{miss_refused, failed_bad, failed_own, failed_none, failed_at}
use Rattle.routing_calls.proofs.failing.failed.Goals as goal

pub returns-in_err-told : goal.returns-in_err-told
returns-in_err-told c =
    let bad = c.in_err-told.ensures in
    let r : c.from_residual.result ≡ Err BadState = search rules in
    ap (λ (x : Result Failure Refusal). meaning_of x c.args.table.now) r ∙ miss_refused _ _ (search rules) (failed_bad _ _ bad.1)

pub returns-then-told : goal.returns-then-told
returns-then-told c =
    let t = c.in_ok-told.ensures in
    miss_refused _ _ (search rules) (failed_own _ _ t.kept (sym t.own ∙ search rules))

pub returns-in_default : goal.returns-in_default
returns-in_default c =
    let t = c.in_ok-told.ensures in
    miss_refused _ _ (search rules) (failed_none _ _ t.kept (sym t.own ∙ search rules) _ t.entry c.in_default.is)

pub failing-requires : goal.failing-requires
failing-requires c =
    let t = c.in_ok-told.ensures in
    record { kept = t.kept; sized = t.sized; used = entry_used c.args.table.now _ _ t.entry c.in-Some.is; recent = λ from e. newest_used c.args.table.now _ _ t.newest (search rules) }

pub returns : goal.returns
returns c =
    let t = c.in_ok-told.ensures in
    c.failing.ensures (log_distance_of c.args.table.now.own c.args.id) (search rules) ∙ ap (given_by c.args.table.now) (sym (failed_at _ _ t.kept (sym t.own ∙ search rules) _ t.entry c.in-Some.is))
