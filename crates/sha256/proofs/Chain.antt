-- The state from block to block: through the blocks that the message fills, and through the one or two that end it. Assumes nothing.
use Prim.Native.Nat.{ℕ, suc, ◌+◌, ◌*◌, ◌/◌, ◌%◌, ◌<◌, ◌≤◌}
use native.Mathlib.Numerals.{add-one}
use mathlib.Core.Path.{◌≡◌, sym, ap, ap₂, ◌∙◌}
use mathlib.Core.List.{List, [], ◌++◌}
use native.Mathlib.Omega.{arith}
use Rattle.std.specs.Simd.{first_chunks}
use Rattle.octets.proofs.Parts.{chunk_at}
use lib.ListN.{length, get_or, take, replicate}
use Rattle.octets.specs.Bytes.{be_bytes}
use Rattle.sha256_block.specs.declared.State.{State}
use Rattle.sha256_block.specs.Block.{compressed}
use Rattle.sha256.specs.Hash.{pad, block_at, after}
use Rattle.sha256.specs.Ends.{begun}
use Rattle.sha256.proofs.Padding.{blocks_one, blocks_two, block_inside, block_last, block_begun, block_ended}

-- a block more
after_more : (p block : List ℕ) (k : ℕ) (s r : State) → s ≡ after p k → block ≡ block_at p k → r ≡ compressed s block → r ≡ after p (suc k)
unfolding after
after_more p block k s r e b is = is ∙ ap₂ compressed e b

module _ (m : List ℕ) where
  -- one that the message fills
  pub inside_more : (parts : List (List ℕ)) → parts ≡ first_chunks 64 (length m / 64) m → (k : ℕ) (s r : State) → k < length m / 64
      → s ≡ after (pad m) k → r ≡ compressed s (get_or parts k []) → r ≡ after (pad m) (k + 1)
  inside_more parts are k s r h e is =
      let block : get_or parts k [] ≡ block_at (pad m) k =
      ap (λ (l : List (List ℕ)). get_or l k []) are ∙ chunk_at 64 (length m / 64) m k h ∙ sym (block_inside m k (omega arith)) in
      after_more (pad m) (get_or parts k []) k s r e block is
      ∙ ap (after (pad m)) (sym (add-one k))

  -- the last one, where the length fits into the block that the message ends in
  pub last_one : (s r : State) → length m % 64 < 56 → s ≡ after (pad m) (length m / 64)
      → r ≡ compressed s (take 56 (begun m) ++ be_bytes 8 (8 * length m)) → r ≡ after (pad m) (length (pad m) / 64)
  last_one s r h e is =
      after_more (pad m) _ (length m / 64) s r e (block_last m h) is ∙ ap (after (pad m)) (sym (blocks_one m h))

  -- the last two, where it does not
  pub last_two : (s x r : State) → 56 ≤ length m % 64 → s ≡ after (pad m) (length m / 64) → x ≡ compressed s (begun m)
      → r ≡ compressed x (replicate 56 0 ++ be_bytes 8 (8 * length m)) → r ≡ after (pad m) (length (pad m) / 64)
  last_two s x r h e is then =
      after_more (pad m) _ (suc (length m / 64)) x r
      (after_more (pad m) (begun m) (length m / 64) s x e (block_begun m h) is) (block_ended m h) then
      ∙ ap (after (pad m)) (sym (blocks_two m h))
