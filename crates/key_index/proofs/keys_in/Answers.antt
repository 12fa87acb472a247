-- `key_index::keys_in` meets its contract: std's pieces of nine bytes are the keys, and bytes of bytes are bytes. Assumes nothing.
use Prim.Native.Nat.{ℕ, ◌*◌, ◌/◌, ◌≤◌, ◌<◌}
use native.Mathlib.Omega.{arith}
use mathlib.Core.Path.{◌≡◌, sym, subst, ◌∙◌}
use lib.ListN.{length, get_or}
use Rattle.octets.proofs.Numbers.{bytes_all}
use Rattle.key_index.specs.Keys.{Each, NineBytes}
use Rattle.key_index.specs.View.{chunks}
use Rattle.key_index.proofs.Chunks.{chunks_pieces, chunks_nine}
use Rattle.key_index.proofs.keys_in.Goals as goal
use Rattle.key_index.proofs.keys_in.Goals.{After-as_chunks}

pieces : (c : After-as_chunks) → c.as_chunks.result.0.now ≡ chunks (length c.args.bytes.now / 9) c.args.bytes.now
pieces c = c.as_chunks.ensures.front ∙ chunks_pieces (length c.args.bytes.now / 9) c.args.bytes.now

pub returns-clause-keys : goal.returns-clause-keys
returns-clause-keys c = pieces (goal.at.returns-clause-keys c).After-as_chunks

pub returns-clause-nine : goal.returns-clause-nine
returns-clause-nine c =
    let b = c.args.bytes.now in
    let byte : (i : ℕ) → get_or b i 0 < 256 = λ i. omega (arith, c.type_inv.bytes i) in
    let few : 9 * (length b / 9) ≤ length b = omega arith in
    subst (Each NineBytes) (sym (pieces (goal.at.returns-clause-nine c).After-as_chunks)) (chunks_nine (length b / 9) b few (bytes_all b byte))
