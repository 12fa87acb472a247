-- `message_rules::offset` meets its contract: four bytes from a place on stand for the same number where some are past the end. Assumes nothing.
use native.Mathlib.Omega.{arith}
use mathlib.Core.Path.{ap}
use Rattle.octets.specs.Bytes.{le}
use Rattle.octets.proofs.Parts.{le_part}
use Rattle.message.specs.Records.{offset_of}
use Rattle.message_rules.proofs.offset.Goals as goal

pub returns : goal.returns
unfolding offset_of
returns c =
    let a = c.args in
    (omega (arith, ap le c.part.ensures, le_part 4 a.at a.s.now), c.le4.ensures.1)
