-- What the helpers do to a table's arrays, unused places included.
use Rattle.std.specs.Prelude.{ℕ, suc, ◌+◌, ◌-◌, ◌≡◌, List, drop, get_or, set}
use Rattle.std.proofs.Math.Seq.{paste}
use Rattle.routing_table.specs.View.{no_contact}
use Rattle.routing_table.specs.declared.Contact.{Contact}
use Rattle.routing_table.specs.declared.Entry.{Entry}
use Rattle.routing_table.specs.declared.RoutingTable.{RoutingTable}
use Rattle.routing_calls.specs.Change.{entry_of}

-- so many entries, from this array
abbrev pub table_entries : RoutingTable → ℕ → List Entry → RoutingTable
table_entries t count es = record { own = t.own; count = count; entries = es; waiting = t.waiting; replacements = t.replacements }

-- so many replacements, from this array
abbrev pub table_replacements : RoutingTable → ℕ → List Contact → RoutingTable
table_replacements t waiting cs = record { own = t.own; count = t.count; entries = t.entries; waiting = waiting; replacements = cs }

-- an entry at a place
abbrev pub entry_put : RoutingTable → ℕ → Entry → RoutingTable
entry_put t at e = table_entries t t.count (set t.entries at e)

-- an entry more
abbrev pub entry_added : RoutingTable → Entry → RoutingTable
entry_added t e = table_entries t (t.count + 1) (set t.entries t.count e)

-- a replacement more
abbrev pub replacement_added : RoutingTable → Contact → RoutingTable
replacement_added t c = table_replacements t (t.waiting + 1) (set t.replacements t.waiting c)

-- the places from `at` up to `last` taken from the place behind each
unfoldable pub closed : {A : Type 0} → ℕ → ℕ → List A → List A
closed at last l = paste l at (drop (suc at) l) (last - at)

-- a replacement less
abbrev pub replacement_out : RoutingTable → ℕ → RoutingTable
replacement_out t at = table_replacements t (t.waiting - 1) (closed at (t.waiting - 1) t.replacements)

-- a table that is another one with a contact as the most recent replacement, in place of the one at a place
pub record Latest (t : RoutingTable) (at : ℕ) (c : Contact) (r : RoutingTable) : Type 0 where
  pub is : r ≡ replacement_added (replacement_out t at) c

-- the replacement at one place as the entry at another
abbrev pub exchanged : RoutingTable → ℕ → ℕ → RoutingTable
exchanged t at from = entry_put (replacement_out t from) at (entry_of (get_or t.replacements from no_contact))
