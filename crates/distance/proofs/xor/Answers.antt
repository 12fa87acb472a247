-- `distance::xor` meets its contract: each byte is that of the exclusive or. Assumes nothing.
use Rattle.std.proofs.Common.{rules, get_or, arith}
use lib.Bits.{bit_xor}
use Rattle.octets.proofs.Made.{made_at}
use Rattle.distance.proofs.Exclusive.{xor_of_each}
use Rattle.distance.proofs.xor.Goals as goal

pub returns : goal.returns
returns c =
    let a = c.args.a in
    let b = c.args.b in
    let made = c.from_fn.ensures.items in
    xor_of_each a b c.from_fn.result (search rules) (search rules)
    (λ k l. made_at _ _ (λ i. bit_xor (get_or a i 0) (get_or b i 0)) _ 32 (λ j y q s call. (search rules, search rules)) made k 0 (omega arith))
