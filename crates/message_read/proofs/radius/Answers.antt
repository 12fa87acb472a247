-- `message_read::radius` meets its contract: its length decides, and the radius is the rest in the other order. Assumes nothing.
use native.Mathlib.Omega.{arith}
use mathlib.Core.Path.{◌∙◌, ap}
use mathlib.Core.List.{reverse}
use lib.ListN.{length}
use borrow.Author.Rules.{rules}
use borrow.Author.Tests.{eq-eqb}
use Rattle.message_read.proofs.Lists.{bytes_rest}
use Rattle.refusal.specs.Outcome.{given}
use Rattle.message_read.proofs.radius.Goals as goal

pub returns : goal.returns
returns c =
    let s = c.args.message.now in
    let rest = bytes_rest 32 1 _ c.args.message.now c.part.ensures (omega arith) (search rules) in
    rw (eq-eqb (length s) 33 (search rules)) (ap given (c.reversed.ensures ∙ ap reverse rest))
