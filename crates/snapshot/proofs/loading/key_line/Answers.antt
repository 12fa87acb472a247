-- `loading::key_line` meets its contract: each way out is a law of the reading of a key's line (`proofs/Reading.antt`). Assumes nothing.
use mathlib.Core.Path.{sym, ap, ◌∙◌}
use lib.ListN.{drop}
use borrow.Author.Rules.{rules}
use Rattle.snapshot.specs.Parts.{line_with}
use Rattle.snapshot.proofs.Reading.{key_none, key_mark, key_fails, key_whole}
use Rattle.snapshot.proofs.loading.key_line.Goals as goal

pub returns-in_err-frame : goal.returns-in_err-frame
returns-in_err-frame c =
    let h = c.args.header.now in
    ap (line_with c.args.key.now) c.from_residual.ensures
    ∙ key_none h.node h.cap c.args.last (drop c.args.at c.args.text.now) (sym c.read_frame.ensures ∙ c.in_err-frame.was)

pub returns-then-frame-ne2 : goal.returns-then-frame-ne2
returns-then-frame-ne2 c =
    let h = c.args.header.now in
    key_mark h.node h.cap c.args.last (drop c.args.at c.args.text.now) c.in_ok-frame.frame (sym c.read_frame.ensures ∙ c.in_ok-frame.was) c.if-frame-ne2.true

pub returns-then-not-key_passes : goal.returns-then-not-key_passes
returns-then-not-key_passes c =
    let h = c.args.header.now in
    key_fails h.node h.cap c.args.last (drop c.args.at c.args.text.now) c.in_ok-frame.frame (sym c.read_frame.ensures ∙ c.in_ok-frame.was) c.if-frame-ne2.false
    (search rules) _ _ c.part.ensures c.away-far.ensures (sym c.key_passes.ensures ∙ c.if-not-key_passes.true)

pub returns : goal.returns
returns c =
    let h = c.args.header.now in
    key_whole h.node h.cap c.args.last (drop c.args.at c.args.text.now) c.in_ok-frame.frame (sym c.read_frame.ensures ∙ c.in_ok-frame.was) c.if-frame-ne2.false
    (search rules) _ _ c.part.ensures c.away-far.ensures (sym c.key_passes.ensures ∙ c.if-not-key_passes.false)
