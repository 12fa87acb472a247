-- `distance::at_most` meets its contract. The invariant: the order of the whole values is that of what is left of them. Bytes that differ
-- decide, equal ones leave it to the rest. Assumes nothing.
use Rattle.std.proofs.Common.{◌≡◌, length}
use Rattle.octets.specs.Order.{lex_leb}
use Rattle.distance.proofs.at_most.Given as goal

abbrev pub invariant-loop-x : goal.invariant-loop-x
invariant-loop-x l =
    let a = l.x-iterator.a.rest.now in
    let b = l.x-iterator.b.rest.now in
    (length a ≡ length b) × (lex_leb l.fn.a l.fn.b ≡ lex_leb a b)
