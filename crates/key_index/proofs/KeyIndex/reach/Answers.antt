-- `KeyIndex::reach` meets its contract: the two cases of the radius (`proofs/Answers.antt`). Assumes nothing.
use Prim.Native.Nat.{ℕ, ◌*◌, ◌-◌}
use native.Mathlib.Omega.{arith}
use mathlib.Core.List.{List}
use mathlib.Core.Path.{◌≡◌, sym, ap, ◌∙◌}
use lib.ListN.{length}
use borrow.Author.Rules.{rules}
use Rattle.distance.specs.Distance.{xor_of}
use Rattle.content_key.specs.Key.{key_id}
use Rattle.key_index.specs.View.{key_limit, view}
use Rattle.key_index.proofs.Chunks.{chunks_length}
use Rattle.key_index.proofs.Answers.{reach_room, reach_full, full_last}
use Rattle.key_index.proofs.KeyIndex.reach.Goals as goal

pub returns-then-self-lt-LIMIT : goal.returns-then-self-lt-LIMIT
returns-then-self-lt-LIMIT c =
    let index = c.args.self.now in
    λ few. sym (reach_room key_limit (view index) (omega (arith, chunks_length index.count index.keys)))

pub returns : goal.returns
returns c =
    let index = c.args.self.now in
    let size : length index.keys ≡ 9 * key_limit = search rules in
    λ few. c.away.ensures
    ∙ ap (λ (k : List ℕ). xor_of index.node (key_id k)) (full_last (key_limit - 1) index.count _ index.keys _ c.key_at.ensures (omega arith) (omega arith) (omega arith))
    ∙ sym (reach_full key_limit (view index) (omega (arith, chunks_length index.count index.keys)))
