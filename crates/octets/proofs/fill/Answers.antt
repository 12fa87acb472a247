-- What the check does not find alone of `octets::fill`; the invariant beside it says how the loop goes. Assumes nothing.
use Rattle.std.proofs.Common.{rules, arith, ◌∙◌, sym, ap, length, length-set, get_or, List, ℕ}
use lib.Seq.{get_or-drop}
use Rattle.octets.specs.Parts.{bytes_at}
use Rattle.octets.proofs.Buffers.{copied_next, copied_all}
use Rattle.octets.proofs.Parts.{bytes_at_length, bytes_at_get}
use Rattle.octets.proofs.fill.Goals as goal

pub loop-i-preserved : goal.loop-i-preserved
loop-i-preserved c =
    let a = c.args in
    let n = length a.out.now in
    let i = c.loop-i.i in (
      simp length-set (search rules),
      copied_next c.loop-i.out a.out.now (bytes_at n a.from a.bytes.now) i _ (search rules)
          (omega (arith, bytes_at_length n a.from a.bytes.now, c.loop-i.invariant.0))
          (c.byte.ensures
          ∙ ap (λ (l : List ℕ). get_or l i 0) c.behind-rest.ensures
          ∙ get_or-drop a.from a.bytes.now i 0
          ∙ sym (bytes_at_get n a.from a.bytes.now i (search rules))) c.loop-i.invariant.1,
    )

pub returns : goal.returns
returns c =
    let a = c.args in
    let n = length a.out.now in
    c.loop-i.invariant.1
    ∙ copied_all a.out.now (bytes_at n a.from a.bytes.now) c.loop-i.i (search rules)
    (omega (arith, bytes_at_length n a.from a.bytes.now))
