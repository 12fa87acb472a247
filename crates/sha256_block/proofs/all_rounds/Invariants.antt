-- `sha256_block::all_rounds` meets its contract. The invariant: what is left of the rounds takes the state to that after all of them. Assumes nothing.
use Rattle.std.proofs.Common.{◌≡◌}
use Rattle.sha256_block.proofs.Turns.{in_parts}
use Rattle.sha256_block.proofs.all_rounds.Given as goal

abbrev pub invariant-loop-ks : goal.invariant-loop-ks
invariant-loop-ks l =
    let first = l.initial.ks-iterator in
    let left = l.ks-iterator in
    in_parts first.a.rest.now first.b.rest.now l.initial.s ≡ in_parts left.a.rest.now left.b.rest.now l.s
