-- `key_store::insert` meets its contract: the keys copied one place up and the key copied into the gap are the key at its place
-- (`proofs/Shift.antt`). Assumes nothing.
use Prim.Native.Nat.{ℕ, ◌+◌, ◌-◌, ◌*◌}
use native.Mathlib.Omega.{arith}
use mathlib.Core.Path.{◌≡◌, ap}
use mathlib.Core.List.{List, ◌++◌}
use lib.ListN.{take, drop}
use borrow.Author.Rules.{rules}
use Rattle.key_store.proofs.Shift.{moved}
use Rattle.key_store.proofs.insert.Goals as goal

pub returns : goal.returns
returns c =
    let a = c.args in
    let pre = c.requires in
    let raised = c.copy_within.new.self in
    let same : c.copy_from_slice.new.self ≡ a.key = search rules in
    moved a.keys.now raised a.key _ a.from a.to pre.from_le_to.0 (omega (arith, pre.from_le_to.1, pre.len)) (search rules)
    (ap (λ (k : List ℕ). take (a.from * 9) raised ++ (k ++ drop (a.from * 9 + 9 - a.from * 9) (drop (a.from * 9) raised))) same)
