-- `epoch_tree::root` meets its contract: the tests in their order, and then the root at the start of the buffer. Assumes nothing.
use mathlib.Core.Path.{◌≡◌, sym, ◌∙◌}
use mathlib.Core.Bool.{true}
use borrow.Author.Rules.{rules}
use Rattle.accumulator.specs.Records.{are_records}
use Rattle.epoch_tree.proofs.Nodes.{root_made}
use Rattle.epoch_tree.proofs.Answers.{root_length, root_short, root_written}
use Rattle.epoch_tree.proofs.root.Goals as goal
use Rattle.epoch_tree.proofs.root.Goals.{Else-not-are_records}

-- past the first test the bytes are records
good : (c : Else-not-are_records) → are_records c.args.records.now ≡ true
good c = sym c.are_records.ensures ∙ c.if-not-are_records.false

pub returns-then-not-are_records : goal.returns-then-not-are_records
returns-then-not-are_records c = root_length _ (sym c.are_records.ensures ∙ c.if-not-are_records.true) _ (search rules) _

pub returns-then-out-lt32 : goal.returns-then-out-lt32
returns-then-out-lt32 c = root_short _ (good (goal.at.returns-then-out-lt32 c).Else-not-are_records) _ (search rules) _ (search rules)

pub node-tree-requires : goal.node-tree-requires
node-tree-requires c = record { records_value = good (goal.at.node-tree-requires c).Else-not-are_records; height_bound = search rules }

pub count_chunk-count-requires : goal.count_chunk-count-requires
count_chunk-count-requires c = good (goal.at.count_chunk-count-requires c).Else-not-are_records

pub returns : goal.returns
returns c =
    root_written _ (good (goal.at.returns c).Else-not-are_records) _ (search rules) _ _ _ (search rules) c.put.ensures.out_after
    (root_made _ _ _ _ c.parent-root.ensures (search rules) (search rules))
