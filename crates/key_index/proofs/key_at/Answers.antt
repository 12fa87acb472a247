-- `key_index::key_at` meets its contract: the piece of nine bytes at the place is the key there (`proofs/Chunks.antt`). Assumes nothing.
use Prim.Native.Nat.{ℕ, ◌/◌}
use native.Mathlib.Omega.{arith}
use mathlib.Core.List.{List}
use mathlib.Core.Path.{◌≡◌, ap, ◌∙◌}
use lib.ListN.{length, get_or, replicate}
use borrow.Author.Rules.{rules}
use Rattle.key_index.proofs.Chunks.{key_at_place}
use Rattle.key_index.proofs.key_at.Goals as goal

pub returns : goal.returns
returns c =
    let keys = c.args.keys.now in
    let read : c.unwrap_or.result ≡ get_or c.keys_in.result.now c.args.i (replicate 9 0) = search rules in
    read
    ∙ ap (λ (l : List (List ℕ)). get_or l c.args.i (replicate 9 0)) c.keys_in.ensures.keys
    ∙ key_at_place (length keys / 9) c.args.i keys (omega arith) (omega arith)
