-- `key_store::nearer_keys` meets its contract: in sorted keys the search by halves finds how many are nearer (`proofs/Nearer.antt`). Assumes nothing.
use Prim.Native.Nat.{ℕ, ◌<◌}
use native.Mathlib.Omega.{arith}
use mathlib.Core.Path.{sym}
use lib.ListN.{get_or}
use mir.Val.{Fits}
use mir.Syntax.{w8}
use borrow.Author.Rules.{rules}
use Rattle.std.proofs.Common.{tests}
use Rattle.std.proofs.lemmas.List.Sorted.{IsPartitionPoint-from_clause}
use Rattle.refusal.proofs.Due.{due}
use Rattle.octets.specs.Bytes.{be}
use Rattle.octets.proofs.Numbers.{bytes_all}
use Rattle.key_store.proofs.Nearer.{is_nearer, nearer_partitioned, partition_nearer}
use Rattle.key_store.proofs.nearer_keys.Goals as goal

pub returns-clause-count : goal.returns-clause-count
returns-clause-count c =
    let a = c.args in
    let far = be a.far in
    let point =
    IsPartitionPoint-from_clause (is_nearer a.node far) a.keys.now c.partition_point.result c.partition_point.ensures.partitioned
    (nearer_partitioned a.node far 0 a.keys.now c.requires) (λ a r f k. search (rules, tests)) in
    due (λ (n : ℕ). n) _ c.partition_point.result
    (sym (partition_nearer a.node far a.keys.now c.partition_point.result c.partition_point.ensures.bound point)) (search rules)

pub returns-clause-id : goal.returns-clause-id
returns-clause-id c =
    let node : (j : ℕ) → get_or c.args.node j 0 < 256 = λ j. let f : Fits w8 (get_or c.args.node j 0) = search rules in omega arith in
    (search rules, bytes_all c.args.node node)
