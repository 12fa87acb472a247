-- `routing_calls::seeing::seen` meets its contract: each way out is a case of the definition (`proofs/Sightings.antt`), by what the survey
-- tells (`proofs/Told.antt`). Assumes nothing.
use Prim.Native.Nat.{◌<◌}
use native.Mathlib.Omega.{arith}
use mathlib.Core.Path.{◌≡◌, sym, ap, ◌∙◌}
use mathlib.Core.Bool.{true, false}
use borrow.Author.Rules.{rules}
use Rattle.std.specs.Prelude.{Result, Err}
use Rattle.refusal.specs.declared.Refusal.{Refusal}
use Rattle.refusal.specs.declared.Refusal.TheVariants.{BadState}
use Rattle.routing_calls.specs.SeenFor.{meaning_of}
use Rattle.routing_calls.specs.declared.Standing.{Standing}
use Rattle.routing_table.specs.Good.{sized}
use Rattle.routing_calls.proofs.Told.{entry_used, replacement_used, good_count, good_waiting}
use Rattle.routing_calls.proofs.Sightings.{sight_bad, sight_record, sight_own, sight_entry, sight_replacement, sight_newcomer}
use Rattle.routing_calls.proofs.seeing.seen.Goals as goal
use Rattle.routing_calls.proofs.seeing.seen.Goals.{Else-not-record_fits}

-- and the record fits
fits : (c : Else-not-record_fits) → sized c.args.contact ≡ true
fits c =
    let e = sym c.record_fits.ensures ∙ c.if-not-record_fits.false in
    search rules

pub returns-in_err-told : goal.returns-in_err-told
returns-in_err-told c =
    let bad = c.in_err-told.ensures in
    let r : c.from_residual.result ≡ Err BadState = search rules in
    ap (λ (x : Result Standing Refusal). meaning_of x c.args.table.now) r ∙ sight_bad _ _ _ (search rules) bad.1

pub returns-then-not-record_fits : goal.returns-then-not-record_fits
returns-then-not-record_fits c =
    let e = sym c.record_fits.ensures ∙ c.if-not-record_fits.true in
    let bad : sized c.args.contact ≡ false = search rules in
    sight_record _ _ _ (search rules) c.in_ok-told.ensures.kept bad

pub returns-then-told : goal.returns-then-told
returns-then-told c =
    let t = c.in_ok-told.ensures in
    sight_own _ _ _ (search rules) t.kept (fits (goal.at.returns-then-told c).Else-not-record_fits) (sym t.own ∙ search rules)

pub offset_bounds-table-at : goal.offset_bounds-table-at
offset_bounds-table-at c =
    let t = c.in_ok-told.ensures in
    let used = entry_used c.args.table.now _ _ t.entry c.in-Some.is in
    let few = good_count _ t.kept in
    let below : c.in-Some.at < 128 = omega arith in
    search rules

pub bounds-table-at : goal.bounds-table-at
bounds-table-at c =
    let t = c.in_ok-told.ensures in
    omega (arith, entry_used c.args.table.now _ _ t.entry c.in-Some.is, good_count _ t.kept)

pub returns-in-Some : goal.returns-in-Some
returns-in-Some c =
    let t = c.in_ok-told.ensures in
    sight_entry _ _ t.kept (fits (goal.at.returns-in-Some c).Else-not-record_fits) (sym t.own ∙ search rules) t.sized
    _ _ t.entry c.in-Some.is (search rules)

pub latest-requires : goal.latest-requires
latest-requires c =
    let t = c.in_ok-told.ensures in
    (replacement_used c.args.table.now _ _ t.replacement c.in-Some-replacement.is, good_waiting _ t.kept)

pub returns-in-Some-replacement : goal.returns-in-Some-replacement
returns-in-Some-replacement c =
    let t = c.in_ok-told.ensures in
    sight_replacement _ _ t.kept (fits (goal.at.returns-in-Some-replacement c).Else-not-record_fits) (sym t.own ∙ search rules)
    _ t.entry c.in_default.is _ t.replacement t.sized _ _ c.latest.ensures c.in-Some-replacement.is (search rules)

pub newcomer-requires : goal.newcomer-requires
newcomer-requires c = c.in_ok-told.ensures

pub returns : goal.returns
returns c =
    let t = c.in_ok-told.ensures in
    sight_newcomer _ _ t.kept (fits (goal.at.returns c).Else-not-record_fits) (sym t.own ∙ search rules)
    _ t.entry c.in_default.is _ t.replacement c.newcomer.ensures c.in_default-replacement.is
