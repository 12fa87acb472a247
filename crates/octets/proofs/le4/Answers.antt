-- `octets::le4` meets its contract: std's number of four bytes is the number of the four bytes. Assumes nothing.
use native.Mathlib.Omega.{arith}
use mathlib.Core.Path.{ap}
use Rattle.octets.specs.Bytes.{le}
use Rattle.octets.proofs.Parts.{bytes_at_all}
use borrow.Author.Rules.{rules}
use Rattle.octets.proofs.le4.Goals as goal

pub returns : goal.returns
unfolding le
returns c =
    let four = c.args.four in
    omega (arith, ap le (bytes_at_all 4 four (search rules)), c.from_le_bytes.ensures)
