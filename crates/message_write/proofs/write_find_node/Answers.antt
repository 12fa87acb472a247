-- `message_write::write_find_node` meets its contract: each test has its refusal, and the fixed part and the distances are the message's bytes.
-- Assumes nothing.
use native.Mathlib.Omega.{arith}
use lib.ListN.{length}
use borrow.Author.Rules.{rules}
use Rattle.refusal.specs.declared.Refusal.TheVariants.{TooManyItems, ItemRule}
use Rattle.message_write.proofs.Answers.{refused_writes, writes_as}
use Rattle.message_write.proofs.Shapes.{distances_many, distances_equal, distances_good}
use Rattle.message_write.proofs.write_find_node.Goals as goal

pub returns-then-distances-gt256 : goal.returns-then-distances-gt256
returns-then-distances-gt256 c =
    refused_writes TooManyItems c.args.out.now (distances_many c.args.distances.now (length c.args.out.now) (search rules))

pub returns-then-not-all_different : goal.returns-then-not-all_different
returns-then-not-all_different c =
    refused_writes ItemRule c.args.out.now
    (distances_equal c.args.distances.now (length c.args.out.now) (search rules) _ c.all_different.ensures c.if-not-all_different.true)

pub returns : goal.returns
returns c =
    writes_as c.write_two.ensures
    (distances_good c.args.distances.now (length c.args.out.now) (search rules) _ c.all_different.ensures c.if-not-all_different.false
    _ _ c.rest_head.ensures (omega arith))
