-- What the check does not find alone of `sha256_block::scheduled`; the invariants beside it say how the loop goes. Assumes nothing.
use Rattle.std.proofs.Common.{◌≡◌, ℕ, ◌-◌, ◌++◌, replicate, ap, ◌∙◌, append-nil, rules}
use Rattle.sha256_block.specs.Block.{next_word, schedule}
use Rattle.sha256_block.proofs.Schedules.{schedule_more}
use Rattle.sha256_block.proofs.scheduled.Goals as goal

pub loop-n-init : goal.loop-n-init
unfolding schedule
loop-n-init c = c.opening-words.ensures

pub loop-n-preserved : goal.loop-n-preserved
unfolding next_word
loop-n-preserved c =
    schedule_more c.args.block.now c.loop-n.words c.loop-n.n _ (search rules) c.loop-n.invariant c.next_word.ensures

pub returns : goal.returns
returns c =
    let all : c.loop-n.n ≡ 48 = search rules in
    let block = c.args.block.now in
    c.loop-n.invariant ∙ ap (λ (k : ℕ). schedule block k ++ replicate (48 - k) 0) all ∙ append-nil (schedule block 48)
