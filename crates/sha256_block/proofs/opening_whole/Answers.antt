-- What the check does not find alone of `sha256_block::opening_whole`; the invariants beside it say how the loop goes. Assumes nothing.
use Rattle.std.proofs.Common.{◌≡◌, ℕ, ◌-◌, ◌++◌, replicate, refl, ap, ◌∙◌, rules}
use Rattle.sha256_block.specs.Block.{first_words}
use Rattle.sha256_block.proofs.Schedules.{first_more, word_is}
use Rattle.sha256_block.proofs.opening_whole.Goals as goal

pub loop-t-init : goal.loop-t-init
unfolding first_words
loop-t-init c = refl

pub loop-t-preserved : goal.loop-t-preserved
loop-t-preserved c =
    first_more c.args.block.now c.loop-t.words c.loop-t.t _ (search rules) c.loop-t.invariant (word_is _ c.as_chunks.result.0.now (search rules) c.loop-t.t _ (search rules) (search rules))

pub returns : goal.returns
returns c =
    let all : c.loop-t.t ≡ 16 = search rules in
    c.loop-t.invariant
    ∙ ap (λ (k : ℕ). first_words c.args.block.now k ++ replicate (64 - k) 0) all
