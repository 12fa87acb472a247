-- `routing_calls::failing::failing` meets its contract: each way out is a case of the definition (`proofs/Misses.antt`). Assumes nothing.
use Prim.Native.Nat.{◌<◌}
use native.Mathlib.Omega.{arith}
use borrow.Author.Rules.{rules}
use Rattle.routing_calls.proofs.Told.{good_count, good_waiting, good_failures}
use Rattle.routing_calls.proofs.Misses.{miss_counted, miss_flagged, miss_replaced}
use Rattle.routing_calls.proofs.failing.failing.Goals as goal
use Rattle.routing_calls.proofs.failing.failing.Goals.{Start}

below : (c : Start) → c.args.at < 128
below c = omega (arith, c.requires.used, good_count c.args.table.now c.requires.kept)

pub offset_bounds-table-at : goal.offset_bounds-table-at
offset_bounds-table-at c =
    let b = below (goal.at.offset_bounds-table-at c).Start in
    search rules

pub bounds-table-at : goal.bounds-table-at
bounds-table-at c = below (goal.at.bounds-table-at c).Start

pub overflow_add-n : goal.overflow_add-n
overflow_add-n c =
    let few = good_failures c.args.table.now c.requires.kept _ c.requires.used in
    search rules

pub offset_bounds-table-at-then-n-lt-FAILURES : goal.offset_bounds-table-at-then-n-lt-FAILURES
offset_bounds-table-at-then-n-lt-FAILURES c =
    let b = below (goal.at.offset_bounds-table-at-then-n-lt-FAILURES c).Start in
    search rules

pub bounds-table-at-then-n-lt-FAILURES : goal.bounds-table-at-then-n-lt-FAILURES
bounds-table-at-then-n-lt-FAILURES c = below (goal.at.bounds-table-at-then-n-lt-FAILURES c).Start

pub returns-then-n-lt-FAILURES : goal.returns-then-n-lt-FAILURES
returns-then-n-lt-FAILURES c = λ d e.
    miss_counted _ c.requires.sized _ c.requires.used (good_count c.args.table.now c.requires.kept) d _ _ _ (search rules) (search rules) (search rules) (search rules)

pub returns-in_default : goal.returns-in_default
returns-in_default c = λ d e.
    miss_flagged _ c.requires.sized _ c.requires.used (good_count c.args.table.now c.requires.kept) d (search rules) _ e _ (search rules) c.in_default.is

pub promoted-requires : goal.promoted-requires
promoted-requires c =
    (below (goal.at.promoted-requires c).Start, c.requires.recent _ c.in-Some.is, good_waiting c.args.table.now c.requires.kept)

pub returns : goal.returns
returns c = λ d e.
    miss_replaced _ c.requires.sized _ c.requires.used (good_count c.args.table.now c.requires.kept) d (search rules) _ e _ _ _ c.promoted.ensures.after c.promoted.ensures.by c.in-Some.is (search rules) (good_waiting c.args.table.now c.requires.kept)
