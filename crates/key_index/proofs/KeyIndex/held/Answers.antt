-- `KeyIndex::held` meets its contract: the array has room for as many keys as the limit. Assumes nothing.
use Prim.Native.Nat.{ℕ, ◌*◌, ◌/◌}
use native.Mathlib.Omega.{arith}
use mathlib.Core.Path.{◌≡◌, ap, ◌∙◌}
use lib.ListN.{length, take}
use borrow.Author.Rules.{rules}
use Rattle.key_index.specs.View.{key_limit, chunks}
use Rattle.key_index.proofs.KeyIndex.held.Goals as goal

pub returns-clause-keys : goal.returns-clause-keys
returns-clause-keys c =
    let index = c.args.self.now in
    let size : length index.keys ≡ 9 * key_limit = search rules in
    let all : length index.keys / 9 ≡ key_limit = omega arith in
    c.held.ensures.keys ∙ ap (λ (n : ℕ). take n (chunks index.count index.keys)) all
