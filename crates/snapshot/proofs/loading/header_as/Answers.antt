-- `loading::header_as` meets its contract: each way out is a law of the reading of a first line (`proofs/Reading.antt`). Assumes nothing.
use Prim.Native.Nat.{◌-◌}
use native.Mathlib.Omega.{arith}
use mathlib.Core.Path.{◌≡◌, sym, ◌∙◌}
use borrow.Author.Rules.{rules}
use Rattle.snapshot.specs.Text.{Kind, head_size}
use Rattle.snapshot.proofs.Reading.{header_none, header_mark, header_many, header_whole}
use Rattle.snapshot.proofs.loading.header_as.Given.{Over}
use Rattle.snapshot.proofs.loading.header_as.Goals as goal
use Rattle.snapshot.proofs.loading.header_as.Goals.{Start}

-- the kind that is asked for
abbrev kind : (g : Over) → Start g → Kind
kind g c = record { mark = c.args.mark; width = g.row.N - 65; limit = c.args.limit }

size : (g : Over) (c : Start g) → head_size (kind g c) ≡ g.row.N
size g c = let r = c.requires in omega (arith, r.0)

pub returns-in_err-frame : goal.returns-in_err-frame
returns-in_err-frame g c =
    let s = (goal.at.returns-in_err-frame g c).Start in
    c.from_residual.ensures ∙ header_none (kind g s) c.args.text.now g.row.N (size g s) (sym c.read_frame.ensures ∙ c.in_err-frame.was)

pub returns-then-frame-mark : goal.returns-then-frame-mark
returns-then-frame-mark g c =
    let s = (goal.at.returns-then-frame-mark g c).Start in
    header_mark (kind g s) c.args.text.now g.row.N (size g s) c.in_ok-frame.frame (sym c.read_frame.ensures ∙ c.in_ok-frame.was) c.if-frame-mark.true

pub returns-then-limit-count : goal.returns-then-limit-count
returns-then-limit-count g c =
    let s = (goal.at.returns-then-limit-count g c).Start in
    header_many (kind g s) c.args.text.now g.row.N (size g s) c.in_ok-frame.frame (sym c.read_frame.ensures ∙ c.in_ok-frame.was) c.if-frame-mark.false
    c.part.result c.le4-count.result (search rules) (let r = c.requires in omega (arith, r.1)) (search rules) c.le4-count.ensures.0 c.if-limit-count.true

pub returns : goal.returns
returns g c =
    let s = (goal.at.returns g c).Start in
    header_whole (kind g s) c.args.text.now g.row.N (size g s) c.in_ok-frame.frame (sym c.read_frame.ensures ∙ c.in_ok-frame.was) c.if-frame-mark.false
    c.part.result c.le4-count.result (search rules) (let r = c.requires in omega (arith, r.1)) (search rules) c.le4-count.ensures.0 c.if-limit-count.false
    (let r = c.requires in omega (arith, r.0)) c.part-2.result c.part-3.result (search rules) (search rules) _ (search rules)
