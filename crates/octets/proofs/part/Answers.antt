-- `octets::part` meets its contract: where all N bytes are there, they are those of the list from the place on. Assumes nothing.
use Prim.Native.Nat.{◌≤◌}
use native.Mathlib.Omega.{arith}
use mathlib.Core.Path.{◌≡◌, sym, ap, ◌∙◌}
use lib.ListN.{length, take}
use borrow.Author.Rules.{rules}
use Rattle.octets.proofs.Parts.{bytes_at_left}
use Rattle.octets.proofs.part.Goals as goal

pub returns-in-Some : goal.returns-in-Some
returns-in-Some g c =
    let n = g.row.N in
    let many : n ≤ length c.behind.result.now = search rules in
    let first : c.in-Some.whole.now ≡ take n c.behind.result.now = search rules in
    first ∙ ap (take n) c.behind.ensures ∙ sym (bytes_at_left n c.args.from c.args.bytes.now (omega (arith, ap length c.behind.ensures)))
