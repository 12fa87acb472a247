-- What the check does not find alone of `hexadecimal::encode`; the invariants beside it say how the loop goes. Assumes nothing.
use mathlib.Core.Path.{◌∙◌}
use native.Mathlib.Omega.{arith}
use borrow.Author.Rules.{rules}
use lib.ListN.{length-set}
use lib.Seq.{paste-zero}
use Rattle.hexadecimal.specs.Digits.{text_of}
use Rattle.octets.proofs.Buffers.{past_end}
use Rattle.hexadecimal.proofs.Passes.{put_text, refused, accepted, no_place}
use Rattle.hexadecimal.proofs.encode.Goals as goal

pub returns-then-out-at : goal.returns-then-out-at
returns-then-out-at c =
    let a = c.args in
    let clauses = refused a.out.now a.at a.bytes.now (past_end a.out.now a.at (text_of a.bytes.now) (search rules)) in
    record { value = clauses.0; out_after = clauses.1 }

pub returns-then-out-at-2 : goal.returns-then-out-at-2
returns-then-out-at-2 c =
    let a = c.args in
    let clauses = refused a.out.now a.at a.bytes.now (no_place a.out.now a.at a.bytes.now (search rules) (search rules)) in
    record { value = clauses.0; out_after = clauses.1 }

pub loop-i-init : goal.loop-i-init
loop-i-init c =
    let a = c.args in
    (search rules, search rules, paste-zero a.out.now a.at (text_of a.bytes.now))

pub glyph-requires : goal.glyph-requires
glyph-requires c = omega (arith, c.type_inv.bytes c.loop-i.i)

pub bounds-out-at-in-loop-i : goal.bounds-out-at-in-loop-i
bounds-out-at-in-loop-i c = simp length-set (omega arith)

pub loop-i-preserved : goal.loop-i-preserved
loop-i-preserved c =
    let a = c.args in (
      search rules,
      simp length-set (search rules),
      put_text a.out.now a.at a.bytes.now c.loop-i.i (search rules) (search rules) c.loop-i.out c.loop-i.invariant.2
          c.glyph.result c.glyph-in-loop-i.result (search rules) (search rules),
    )

pub returns : goal.returns
returns c =
    let a = c.args in
    let done = accepted a.out.now a.at a.bytes.now c.loop-i.i (search rules) (search rules) in
    record { value = done.0; out_after = c.loop-i.invariant.2 ∙ done.1 }
