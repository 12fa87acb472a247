-- `distance::log_distance` meets its contract: the first byte that is not 0 gives the bit length. Assumes nothing.
use Rattle.std.proofs.Common.{rules, ◌≡◌, ◌∙◌, sym, ap, length, get_or, w8, Fits, arith}
use Rattle.octets.specs.Bytes.{Bytes, be}
use Rattle.octets.proofs.Numbers.{bytes_all}
use Rattle.distance.specs.Distance.{bit_length}
use Rattle.distance.proofs.BitLength.{bits_found, bits_not_found}
use Rattle.distance.proofs.log_distance.Goals as goal
use Rattle.distance.proofs.log_distance.Goals.{After-xor-d}

bytes_d : (c : After-xor-d) → Bytes c.xor-d.result
bytes_d c = bytes_all c.xor-d.result (λ i. let f : Fits w8 (get_or c.xor-d.result i 0) = search rules in omega arith)

length_d : (c : After-xor-d) → length c.xor-d.result ≡ 32
length_d c = search rules

pub returns-in-Some : goal.returns-in-Some
returns-in-Some c =
    let d = c.xor-d.result in
    let found = bits_found d c.in-Some.at (search rules) (bytes_d (goal.at.returns-in-Some c).After-xor-d) (length_d (goal.at.returns-in-Some c).After-xor-d) in
    omega (arith, ap (λ l. bit_length 256 (be l)) c.xor-d.ensures)

pub returns-in-None : goal.returns-in-None
returns-in-None c =
    sym (ap (λ l. bit_length 256 (be l)) (sym c.xor-d.ensures) ∙ bits_not_found c.xor-d.result (search rules))
