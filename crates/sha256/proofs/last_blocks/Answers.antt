-- `sha256::last_blocks` meets its contract: the last block is that of the padded message, or the last two are. Assumes nothing.
use Prim.Native.Nat.{ℕ}
use native.Mathlib.Omega.{arith}
use mathlib.Core.Path.{ap, ap₂, ◌∙◌}
use mathlib.Core.List.{List, ◌++◌}
use lib.ListN.{take, replicate}
use Rattle.sha256_block.specs.Block.{compressed}
use Rattle.sha256.proofs.Chain.{last_one, last_two}
use Rattle.sha256.proofs.last_blocks.Goals as goal

pub returns-then-message-lt56 : goal.returns-then-message-lt56
returns-then-message-lt56 c =
    let a = c.args in
    last_one a.message.now a.state _ (omega (arith, c.if-message-lt56.true)) c.requires
    (c.compress.ensures
    ∙ ap (compressed a.state)
    (c.ended_block-last.ensures
    ∙ ap₂ (λ (x y : List ℕ). take 56 x ++ y) c.begun_block-rest.ensures c.bit_count-count.ensures))

pub returns : goal.returns
returns c =
    let a = c.args in
    last_two a.message.now a.state _ _ (omega (arith, c.if-message-lt56.false)) c.requires
    (c.compress-next.ensures ∙ ap (compressed a.state) c.begun_block-rest.ensures)
    (c.compress-2.ensures
    ∙ ap (compressed _) (c.ended_block-last-2.ensures ∙ ap (λ (y : List ℕ). replicate 56 0 ++ y) c.bit_count-count.ensures))
