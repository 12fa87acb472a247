-- `content_key::id` meets its contract: the array that the stores leave is the listing of the id byte by byte, with six bytes looked up in
-- the table. Assumes nothing.
use borrow.Author.Rules.{rules}
use native.Mathlib.Omega.{arith}
use mathlib.Core.Path.{◌≡◌}
use Prim.Native.Nat.{ℕ, ◌<◌}
use lib.ListN.{length, get_or}
use mir.Val.{Fits}
use mir.Syntax.{w8}
use Rattle.octets.proofs.Numbers.{bytes_all}
use Rattle.content_key.proofs.Listing.{id_through}
use Rattle.content_key.proofs.id.Goals as goal
use Rattle.content_key.proofs.id.Goals.{After-table-table}

byte : (c : After-table-table) (i : ℕ) → get_or c.args.key i 0 < 256
byte c i = let f : Fits w8 (get_or c.args.key i 0) = search rules in omega arith

pub bounds-table-key : goal.bounds-table-key
bounds-table-key c = byte c _

pub bounds-table-key-2 : goal.bounds-table-key-2
bounds-table-key-2 c = byte c _

pub bounds-table-key-3 : goal.bounds-table-key-3
bounds-table-key-3 c = byte c _

pub bounds-table-key-4 : goal.bounds-table-key-4
bounds-table-key-4 c = byte c _

pub bounds-table-key-5 : goal.bounds-table-key-5
bounds-table-key-5 c = byte c _

pub bounds-table-key-6 : goal.bounds-table-key-6
bounds-table-key-6 c = byte c _

pub returns : goal.returns
returns c =
    let key = c.args.key in
    let size : length key ≡ 9 = search rules in
    id_through key (bytes_all key (byte c)) size c.table-table.result (search rules)
