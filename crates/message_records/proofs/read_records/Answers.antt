-- `message_records::read_records` meets its contract: each return is a law of `proofs/Answers.antt`, from the tests that led there and from what
-- was counted, placed and judged. Assumes nothing.
use mathlib.Core.Path.{sym, ◌∙◌}
use borrow.Author.Rules.{rules}
use Rattle.message_records.proofs.Layouts.{Read, counted}
use Rattle.message_records.proofs.Answers.{unread, too_many, bad, good}
use Rattle.message_records.proofs.read_records.Goals as goal
use Rattle.message_records.proofs.read_records.Goals.{In-Some-layout}

-- the list is read, for as many records as were counted
read : (c : In-Some-layout) → Read c.in-Some.list.now c.in-Some-layout.count
read c = counted _ _ (sym c.layout.ensures ∙ c.in-Some-layout.is)

pub returns-in_default-layout : goal.returns-in_default-layout
returns-in_default-layout c =
    unread _ _ _ _ (search rules) (search rules) (search rules) (sym c.in_default-layout.is ∙ c.layout.ensures)

pub returns-then-count-gt32 : goal.returns-then-count-gt32
returns-then-count-gt32 c =
    too_many _ _ _ _ (search rules) (search rules) (search rules) _ (read (goal.at.returns-then-count-gt32 c).In-Some-layout) c.if-count-gt32.true

pub places-found-requires-clause-in_order : goal.places-found-requires-clause-in_order
places-found-requires-clause-in_order c = (read (goal.at.places-found-requires-clause-in_order c).In-Some-layout).in_order_lem

pub returns-then-not-good_records : goal.returns-then-not-good_records
returns-then-not-good_records c =
    bad _ _ _ _ (search rules) (search rules) (search rules) _ (read (goal.at.returns-then-not-good_records c).In-Some-layout) (search rules) _ c.places-found.ensures
    _ c.good_records.ensures c.if-not-good_records.true

pub returns : goal.returns
returns c =
    good _ _ _ _ (search rules) (search rules) (search rules) _ (read (goal.at.returns c).In-Some-layout) (search rules) _ c.places-found.ensures
    _ c.good_records.ensures c.if-not-good_records.false
