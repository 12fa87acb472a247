-- `key_index::find` meets its contract: std's position is the place, and what stands past the array's end is no key (`proofs/Places.antt`).
-- Assumes nothing.
use Prim.Native.Nat.{ℕ, ◌/◌}
use mathlib.Core.List.{List}
use mathlib.Core.Path.{◌≡◌, ap, ◌∙◌}
use lib.ListN.{length}
use lib.Pointwise.{pointwise}
use native.Mathlib.Omega.{arith}
use borrow.Author.Rules.{rules}
use Rattle.std.specs.Prelude.{nat_eq}
use Rattle.std.proofs.Common.{tests}
use Rattle.std.proofs.lemmas.Iterator.{YieldsList-from_slice}
use Rattle.std.proofs.lemmas.Iterator.Search.{position_from_yields_List}
use Rattle.key_index.specs.Search.{place_of}
use Rattle.key_index.proofs.Places.{position_place, place_taken}
use Rattle.key_index.proofs.find.Goals as goal

pub returns : goal.returns
returns c =
    let key = c.args.key in
    let b = c.args.keys.now in
    let nine : length key ≡ 9 = search rules in
    let found =
    position_from_yields_List (λ (k : List ℕ). pointwise nat_eq key k) _ _ c.position.result c.position.ensures.ran
    (YieldsList-from_slice c.held.result.now (cc)) (λ x b q k. search (rules, tests)) in
    found
    ∙ position_place key c.held.result.now
    ∙ ap (place_of key) c.held.ensures.keys
    ∙ place_taken (length b / 9) c.args.count key b nine (omega arith)
