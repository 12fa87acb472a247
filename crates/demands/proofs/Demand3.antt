-- Demand 3, for the box, undivided: for every node id and cap of 32 bytes each, and every list of store, remove and reload calls of any
-- length, with any input and in any order, the first on a fresh index, each later one on the index that the one before it returned. Assumes
-- nothing else.
use mathlib.Core.List.{List}
use Rattle.runs.specs.Views.{Call}
use Rattle.runs.specs.Demand3.{Demand3}
use Rattle.runs.proofs.Demand3 as runs
use Rattle.demands.specs.Box.{Owner, ValidOwner}
use Rattle.demands.specs.Setting.{box}
use Rattle.demands.specs.Step.{step}
use Rattle.demands.specs.Plainly.{Plainly}
use Rattle.demands.proofs.Laws.{laws}
use Rattle.demands.proofs.Steps.{index}
use Rattle.demands.proofs.Plainly.{plainly}

-- `step` is the box's own storing, removing and reloading, at 3,000 keys. The nine parts, in document 01's words (its "shelf", "ceiling" and
-- "turned out" are the index, the cap and evicted):
-- 1. The index lists 3,000 keys at most, all different, strictly nearest first, each within the announced radius, and gives no 0: `in_order`, `no_zero`.
-- 2. Its node id and ceiling are those of the last accepted reload, or of the fresh shelf: `owner_fresh`, `owner_reloaded`.
-- 3. A stretch, any part of the list with no accepted removal or reload in it, ends with exactly the 3,000 nearest of the keys held at its
--    start and those presented in it with acceptable content and within the ceiling, each counted once: `nearest`. A key counts as presented
--    only where its number was at most the newest that its call named.
-- 4. Two stretches, of one list or of two, that start with the same shelf and present the same set of such keys, in any order and with any
--    repeats, end with the same keys in the same places: `alike`.
-- 5. A key not held, with acceptable content and a number of at most the newest that its call names, is kept exactly when its distance is at
--    most the radius announced just before: `accepts`.
-- 6. From each accepted reload until the next, the keys held just after it plus the stores accepted since equal the keys held now plus those
--    turned out and those removed since, all counted from the answers; a fresh shelf counts as a reload: `counts`.
-- 7. An accepted store names a key as turned out exactly when one left, and names that one; nothing else leaves: `evicts`.
-- 8. A removal is accepted exactly when its key is held, and takes that key out and no other: `removes`, `leaves`; a reload is accepted exactly
--    when its text is the written form of a shelf, in either kind, and leaves that shelf: `reloads`.
-- 9. A refused call leaves the shelf as it was: `refuses`.
pub demand3 : (o : Owner) → ValidOwner o → (calls : List (Call box)) → Demand3 box step o calls
demand3 o valid calls = runs.demand3 laws index o valid calls

-- parts 1, 3, 4, 5 and 8 once more, in the box's own terms
pub demand3_plainly : (o : Owner) → ValidOwner o → (calls : List (Call box)) → Plainly o calls
demand3_plainly o valid calls = plainly o valid calls (demand3 o valid calls)
