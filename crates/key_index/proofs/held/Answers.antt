-- `key_index::held` meets its contract: the keys held are the first of those that the array has room for (`proofs/Chunks.antt`). Assumes nothing.
use Prim.Native.Nat.{◌/◌}
use native.Mathlib.Omega.{arith}
use mathlib.Core.Path.{ap, ◌∙◌}
use lib.ListN.{length, take}
use Rattle.key_index.specs.Keys.{NineBytes}
use Rattle.key_index.proofs.Chunks.{places_held}
use Rattle.key_index.proofs.Each.{each_take}
use Rattle.key_index.proofs.held.Goals as goal

pub returns-clause-keys : goal.returns-clause-keys
returns-clause-keys c =
    let keys = c.args.keys.now in
    ap (take c.min.result) c.keys_in-places.ensures.keys
    ∙ places_held (length keys / 9) c.args.count c.min.result keys (omega arith)

pub returns-clause-nine : goal.returns-clause-nine
returns-clause-nine c = each_take NineBytes c.min.result c.keys_in-places.result.now c.keys_in-places.ensures.nine
