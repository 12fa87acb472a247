-- `sha256_block::opening` meets its contract: neither bytes behind the 64 count nor zeros behind a short block. Assumes nothing.
use Rattle.std.proofs.Common.{ℕ, List, ◌++◌, replicate, ap, ◌∙◌, lit≤}
use Rattle.sha256_block.specs.Block.{first_words}
use Rattle.sha256_block.proofs.Schedules.{filled_words, front_words}
use Rattle.sha256_block.proofs.opening.Goals as goal

pub returns-in-Some : goal.returns-in-Some
returns-in-Some c =
    c.opening_whole.ensures
    ∙ ap (λ (l : List ℕ). l ++ replicate 48 0) (front_words c.args.block.now c.in-Some.whole.now c.in-Some.ensures.cases.same)

pub returns-in-None : goal.returns-in-None
returns-in-None c =
    c.opening_whole-in-None.ensures
    ∙ ap (λ (l : List ℕ). l ++ replicate 48 0)
    (ap (λ (l : List ℕ). first_words l 16) c.part.ensures ∙ filled_words c.args.block.now 64 (lit≤ tt))
