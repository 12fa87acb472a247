-- `loading::read_frame` meets its contract: the two tests and the decoder's answers are laws of the reading of a line (`proofs/Reading.antt`).
-- Assumes nothing.
use Prim.Native.Nat.{ℕ, ◌+◌, ◌-◌, ◌*◌}
use native.Mathlib.Omega.{arith}
use mathlib.Core.Path.{◌∙◌}
use mathlib.Core.List.{List}
use lib.ListN.{drop, replicate, length-drop, length-replicate}
use lib.Seq.{get_or-drop}
use Rattle.snapshot.proofs.Reading.{short_line, unended_line, frame_read, frame_not}
use Rattle.snapshot.proofs.loading.read_frame.Goals as goal

pub returns-then-text-at : goal.returns-then-text-at
returns-then-text-at g c = short_line c.args.text.now c.args.at g.row.N c.if-text-at.true

pub returns-then-text-end-ne10 : goal.returns-then-text-end-ne10
returns-then-text-end-ne10 g c = unended_line c.args.text.now c.args.at g.row.N c.if-text-end-ne10.true

pub returns-in-Ok : goal.returns-in-Ok
returns-in-Ok g c =
    let text = c.args.text.now in
    let at = c.args.at in
    let zeros : List ℕ = replicate g.row.N 0 in
    frame_read (drop at text) zeros g.row.N (length-replicate g.row.N 0) (omega (arith, c.if-text-at.false, length-drop at text))
    (get_or-drop at text (2 * g.row.N) 0 ∙ c.if-text-end-ne10.false) (at + 2 * g.row.N - at) (omega arith) _ _ c.decode.ensures.value c.decode.ensures.out_after c.in-Ok.is

pub returns-in-Err : goal.returns-in-Err
returns-in-Err g c =
    let text = c.args.text.now in
    let at = c.args.at in
    let zeros : List ℕ = replicate g.row.N 0 in
    frame_not (drop at text) zeros g.row.N (length-replicate g.row.N 0) (omega (arith, c.if-text-at.false, length-drop at text))
    (get_or-drop at text (2 * g.row.N) 0 ∙ c.if-text-end-ne10.false) (at + 2 * g.row.N - at) (omega arith) _ _ c.decode.ensures.value c.decode.ensures.out_after c.in-Err.is
