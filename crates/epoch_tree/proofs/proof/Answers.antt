-- `epoch_tree::proof` meets its contract: the tests in their order, and then the siblings at the start of the buffer. Assumes nothing.
use Prim.Native.Nat.{◌<◌}
use native.Mathlib.Omega.{arith}
use mathlib.Core.Path.{◌≡◌, sym, ap, ◌∙◌}
use mathlib.Core.Bool.{true}
use borrow.Author.Rules.{rules}
use Rattle.accumulator.specs.Records.{are_records, record_count, flat}
use Rattle.epoch_tree.proofs.Branches.{flat_std}
use Rattle.epoch_tree.proofs.Answers.{proof_length, proof_nowhere, proof_short, proof_written}
use Rattle.epoch_tree.proofs.proof.Goals as goal
use Rattle.epoch_tree.proofs.proof.Goals.{Else-count-position, Else-not-are_records}

-- past the first test the bytes are records
good : (c : Else-not-are_records) → are_records c.args.records.now ≡ true
good c = sym c.are_records.ensures ∙ c.if-not-are_records.false

-- past the second there is one at the position
there : (c : Else-count-position) → let a = c.args in a.position < record_count a.records.now
there c = omega (arith, c.if-count-position.false)

pub returns-then-not-are_records : goal.returns-then-not-are_records
returns-then-not-are_records c = proof_length _ _ (sym c.are_records.ensures ∙ c.if-not-are_records.true) _ (search rules) _

pub returns-then-count-position : goal.returns-then-count-position
returns-then-count-position c = proof_nowhere _ _ (good (goal.at.returns-then-count-position c).Else-not-are_records) (omega (arith, c.if-count-position.true)) _ (search rules) _

pub returns-then-out-lt-PROOF : goal.returns-then-out-lt-PROOF
returns-then-out-lt-PROOF c = proof_short _ _ (good (goal.at.returns-then-out-lt-PROOF c).Else-not-are_records) (there (goal.at.returns-then-out-lt-PROOF c).Else-count-position) _ (search rules) _ (search rules)

pub siblings-siblings-requires : goal.siblings-siblings-requires
siblings-siblings-requires c = record { records_value = good (goal.at.siblings-siblings-requires c).Else-not-are_records; position_bound = there (goal.at.siblings-siblings-requires c).Else-count-position }

pub returns : goal.returns
returns c =
    proof_written _ _ (good (goal.at.returns c).Else-not-are_records) (there (goal.at.returns c).Else-count-position) _ (search rules) _ _ _ (search rules) c.put.ensures.out_after (c.as_flattened.ensures.value ∙ flat_std c.siblings-siblings.result ∙ ap flat c.siblings-siblings.ensures)
