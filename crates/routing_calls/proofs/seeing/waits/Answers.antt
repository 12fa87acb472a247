-- `routing_calls::seeing::waits` meets its contract: each way out is a case of the definition (`proofs/Sightings.antt`). Assumes nothing.
use native.Mathlib.Omega.{arith}
use borrow.Author.Rules.{rules}
use borrow.Author.Tests.{ltb-true}
use Rattle.routing_calls.proofs.Told.{good_waiting, oldest_used}
use Rattle.routing_calls.proofs.Sightings.{wait_more, wait_latest, wait_full}
use Rattle.routing_calls.proofs.seeing.waits.Goals as goal
use Rattle.routing_calls.proofs.seeing.waits.Goals.{else-told-lt-REPLACEMENTS_EACH-via-then-told-lt-REPLACEMENTS_EACH+else-table-lt-REPLACEMENTS, else-told-lt-REPLACEMENTS_EACH-via-else-told-lt-REPLACEMENTS_EACH}

pub returns-then-table-lt-REPLACEMENTS : goal.returns-then-table-lt-REPLACEMENTS
returns-then-table-lt-REPLACEMENTS c =
    wait_more _ _ _ c.requires.replacements c.requires.sized (omega arith) (omega (arith, ltb-true))

pub returns-in_default : goal.returns-in_default
returns-in_default c =
    wait_full _ _ _ c.requires.replacements (elim c.else-told-lt-REPLACEMENTS_EACH.branch [
      | else-told-lt-REPLACEMENTS_EACH-via-then-told-lt-REPLACEMENTS_EACH+else-table-lt-REPLACEMENTS w ↦ λ h. omega arith
      | else-told-lt-REPLACEMENTS_EACH-via-else-told-lt-REPLACEMENTS_EACH w ↦ λ h. omega arith
    ]) _ c.requires.oldest _ (search rules) c.in_default.is

pub latest-requires : goal.latest-requires
latest-requires c =
    let used = oldest_used c.args.table.now _ _ c.requires.oldest c.in-Some.is in
    (search rules, good_waiting _ c.requires.kept)

pub returns : goal.returns
returns c =
    wait_latest _ _ _ c.requires.replacements (elim c.else-told-lt-REPLACEMENTS_EACH.branch [
      | else-told-lt-REPLACEMENTS_EACH-via-then-told-lt-REPLACEMENTS_EACH+else-table-lt-REPLACEMENTS w ↦ λ h. omega arith
      | else-told-lt-REPLACEMENTS_EACH-via-else-told-lt-REPLACEMENTS_EACH w ↦ λ h. omega arith
    ]) _ c.requires.oldest c.requires.sized (good_waiting _ c.requires.kept) _ _ c.latest.ensures c.in-Some.is (search rules)
