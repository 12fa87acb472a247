-- `message_read::found_content` meets its contract: the two offsets decide, then the records, then what is present. Assumes nothing.
use native.Mathlib.Omega.{arith}
use mathlib.Core.Path.{◌≡◌, sym, ◌∙◌}
use mathlib.Core.Bool.{true}
use lib.ListN.{take, drop}
use borrow.Author.Rules.{rules}
use Rattle.message.specs.Decode.{two_offsets}
use Rattle.message_read.proofs.Lists.{bytes_part}
use Rattle.message_read.proofs.Answers.{passed_on}
use Rattle.message_read.proofs.Found.{content_broken, content_long, content_end, content_refused, content_many, content_good}
use Rattle.message_read.proofs.found_content.Goals as goal
use Rattle.message_read.proofs.found_content.Goals.{After-offset-end, After-connection_id-connection}

-- the two offsets are right
right : (c : After-offset-end) → true ≡ two_offsets (drop 1 c.args.message.now)
right c = sym (sym c.two_offsets.ensures ∙ c.if-not-two_offsets.false)

-- the connection id
id : (c : After-connection_id-connection) → c.connection_id-connection.result ≡ take 4 (drop 1 c.args.message.now)
id c =
    let l = content_long c.args.message.now (sym (sym c.two_offsets.ensures ∙ c.if-not-two_offsets.false)) _ c.offset-end.ensures.0 in
    bytes_part 4 1 _ c.args.message.now c.connection_id-connection.ensures (omega arith) (omega arith)

pub returns-then-not-two_offsets : goal.returns-then-not-two_offsets
returns-then-not-two_offsets c = content_broken _ (sym (sym c.two_offsets.ensures ∙ c.if-not-two_offsets.true))

pub to_end-content-requires : goal.to_end-content-requires
to_end-content-requires c = omega (arith, content_end c.args.message.now (right (goal.at.to_end-content-requires c).After-offset-end) _ c.offset-end.ensures.0)

pub returns-in_err-records : goal.returns-in_err-records
returns-in_err-records c =
    passed_on _ (search rules)
    (content_refused _ (right (goal.at.returns-in_err-records c).After-offset-end) _ c.offset-end.ensures.0 _ c.in_err-records.ensures)

pub returns-then-things-gt1 : goal.returns-then-things-gt1
returns-then-things-gt1 c =
    content_many _ (right (goal.at.returns-then-things-gt1 c).After-offset-end) _ c.offset-end.ensures.0 _ c.in_ok-records.ensures
    _ (id (goal.at.returns-then-things-gt1 c).After-connection_id-connection) _ _ c.to_end-content.ensures c.things.ensures (search rules)

pub returns : goal.returns
returns c =
    content_good _ (right (goal.at.returns c).After-offset-end) _ c.offset-end.ensures.0 _ c.in_ok-records.ensures
    _ (id (goal.at.returns c).After-connection_id-connection) _ _ c.to_end-content.ensures c.things.ensures (search rules)
