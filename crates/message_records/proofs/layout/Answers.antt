-- `message_records::layout` meets its contract: each return is a law on the count of a layout (`proofs/Layouts.antt`), with the list's length
-- and its first offset. Assumes nothing.
use borrow.Author.Rules.{rules}
use Rattle.message_records.proofs.Layouts.{no_bytes, too_low, uneven, too_high, laid_in_order, out_of_order}
use Rattle.message_records.proofs.layout.Goals as goal
use Rattle.message_records.proofs.layout.Goals.{then-first-lt4-via-then-first-lt4, then-first-lt4-via-else-first-lt4+then-first-ne0, then-first-lt4-via-else-first-lt4+else-first-ne0+then-list-first}

pub returns-then-is_empty : goal.returns-then-is_empty
returns-then-is_empty c = no_bytes _ (search rules)

pub returns-then-first-lt4 : goal.returns-then-first-lt4
returns-then-first-lt4 c =
    let l = c.args.list.now in
    let first = c.offset-first.ensures.0 in
    elim c.then-first-lt4.branch [
      | then-first-lt4-via-then-first-lt4 w ↦ too_low l (search rules) _ first (search rules)
      | then-first-lt4-via-else-first-lt4+then-first-ne0 w ↦ uneven l (search rules) _ first (search rules)
      | then-first-lt4-via-else-first-lt4+else-first-ne0+then-list-first w ↦ too_high l (search rules) _ first (search rules)
    ]

pub returns-then-ordered : goal.returns-then-ordered
returns-then-ordered c =
    laid_in_order _ (search rules) _ c.offset-first.ensures.0 (search rules) (search rules) (search rules) _ c.ordered.ensures c.if-ordered.true

pub returns-else-ordered : goal.returns-else-ordered
returns-else-ordered c =
    out_of_order _ (search rules) _ c.offset-first.ensures.0 (search rules) (search rules) (search rules) _ c.ordered.ensures c.if-ordered.false
