-- `message_write::parts::list_size` meets its contract: small records have no large sum. Assumes nothing.
use Prim.Native.Nat.{◌≤◌}
use native.Mathlib.Omega.{arith}
use mathlib.Core.Path.{◌≡◌}
use lib.ListN.{take}
use borrow.Author.Rules.{rules}
use Rattle.std.specs.List.{sum}
use Rattle.message_write.specs.Parts.{sum_to}
use Rattle.message_write.proofs.Sums.{sum_first, sum_small}
use Rattle.message_write.proofs.parts.list_size.Goals as goal

pub total-requires : goal.total-requires
total-requires c =
    let p = c.args.records.now in
    omega (arith, sum_first p.lens p.count (search rules), sum_small p c.requires)

pub overflow_add-result : goal.overflow_add-result
overflow_add-result c =
    let p = c.args.records.now in
    let small : sum (take p.count p.lens) ≤ 9600 = omega (arith, sum_first p.lens p.count (search rules), sum_small p c.requires) in
    search rules

pub returns : goal.returns
returns c =
    let p = c.args.records.now in
    let same : sum (take p.count p.lens) ≡ sum_to p.lens p.count = sum_first p.lens p.count (search rules) in
    let small = sum_small p c.requires in
    (omega arith, omega arith)
