-- `content_key::block` meets its contract: the two halves are the number of the eight bytes. Assumes nothing.
use native.Mathlib.Omega.{arith}
use mathlib.Core.Path.{◌≡◌, ap}
use lib.ListN.{length}
use Rattle.octets.specs.Bytes.{le}
use Rattle.octets.proofs.Parts.{bytes_at_rest}
use borrow.Author.Rules.{rules}
use Rattle.content_key.proofs.block.Goals as goal

pub returns : goal.returns
unfolding le
returns c =
    let key = c.args.key in
    let size : length key ≡ 9 = search rules in
    omega
    (arith, ap le c.part.ensures, ap le c.part-2.ensures, ap le (bytes_at_rest 8 1 key (omega arith)))
