-- `sha256_block::compress` meets its contract: the schedule, the rounds, and the sum with the state before. Assumes nothing.
use Rattle.std.proofs.Common.{ℕ, List, refl, ap, ◌∙◌, ap₂}
use Rattle.sha256_tables.specs.Tables.{round_words}
use Rattle.sha256_block.specs.Block.{rounds, sums, compressed}
use Rattle.sha256_block.proofs.compress.Goals as goal

pub returns : goal.returns
unfolding compressed
returns c =
    let a = c.args in
    c.added.ensures
    ∙ ap₂ sums
    (c.all_rounds-worked.ensures ∙ ap (λ (ws : List ℕ). rounds round_words ws 0 a.state 64) c.scheduled-words.ensures)
    refl
