-- `message_rules::things` meets its contract: each thing is test_one as the definition does. Assumes nothing.
use Prim.Native.Nat.{ℕ}
use native.Mathlib.Omega.{arith}
use mathlib.Core.Path.{ap}
use lib.Dec.{ltb}
use Rattle.message.specs.Rules.{one}
use Rattle.message_rules.specs.Things.{things_of}
use Rattle.message_rules.proofs.Present.{test_one}
use Rattle.message_rules.proofs.things.Goals as goal

pub returns : goal.returns
unfolding things_of
returns c =
    let a = c.args in
    omega (
      arith,
      ap (λ (n : ℕ). one (ltb 0 n)) c.le4.ensures.0,
      test_one (ltb 0 c.le4.result),
      test_one (ltb 0 a.records),
      test_one (ltb 0 a.content),
    )
