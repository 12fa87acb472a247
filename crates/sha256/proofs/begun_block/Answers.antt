-- `sha256::begun_block` meets its contract. Assumes nothing.
use native.Mathlib.Omega.{arith}
use borrow.Author.Rules.{rules}
use mathlib.Core.Path.{ap, ◌∙◌}
use Prim.Native.Nat.{ℕ, ◌%◌}
use mathlib.Core.List.{List}
use lib.ListN.{length, replicate}
use Rattle.octets.specs.Buffer.{placed}
use Rattle.sha256.specs.Ends.{rest}
use Rattle.sha256.proofs.Padding.{rest_length}
use Rattle.sha256.proofs.Written.{begun_block}
use Rattle.sha256.proofs.begun_block.Goals as goal

pub returns : goal.returns
returns c =
    let m = c.args.message.now in
    begun_block (rest m) _ _ (length m % 64) _ (search rules) (rest_length m) (omega arith)
    (c.put.ensures.out_after ∙ ap (λ (l : List ℕ). placed (replicate 64 0) 0 l) c.as_chunks.ensures.back)
    (omega arith)
