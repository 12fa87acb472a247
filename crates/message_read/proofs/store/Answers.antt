-- `message_read::store` meets its contract: the layout decides, and then what is present. Assumes nothing.
use native.Mathlib.Omega.{arith}
use mathlib.Core.Path.{◌≡◌}
use lib.ListN.{take, drop}
use borrow.Author.Rules.{rules}
use Rattle.message_read.specs.Shapes.{Rest}
use Rattle.message_read.proofs.Lists.{bytes_part}
use Rattle.message_read.proofs.Answers.{passed_on}
use Rattle.message_read.proofs.Shapes.{store_broken, store_bad, store_good}
use Rattle.message_read.proofs.store.Goals as goal
use Rattle.message_read.proofs.store.Goals.{After-connection_id-connection}

-- the connection id
id : (c : After-connection_id-connection) → c.connection_id-connection.result ≡ take 4 (drop 1 c.args.message.now)
id c =
    let t : Rest 8 c.args.message.now c.in_ok-rest.field-0.now = c.in_ok-rest.ensures in
    bytes_part 4 1 _ c.args.message.now c.connection_id-connection.ensures (omega arith) (omega arith)

pub returns-in_err-rest : goal.returns-in_err-rest
returns-in_err-rest c = passed_on _ (search rules) (store_broken _ _ c.in_err-rest.ensures)

pub returns-then-things-ne1 : goal.returns-then-things-ne1
returns-then-things-ne1 c =
    store_bad _ c.in_ok-rest.ensures _ (id (goal.at.returns-then-things-ne1 c).After-connection_id-connection) _ c.to_end-content.ensures _ c.things.ensures (search rules)

pub returns : goal.returns
returns c =
    store_good _ c.in_ok-rest.ensures _ (id (goal.at.returns c).After-connection_id-connection) _ c.to_end-content.ensures _ c.things.ensures (search rules)
