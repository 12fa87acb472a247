-- `reply_records::gather::gather` meets its contract. The invariant: the records kept so far, and those at the places from there on, come to all
-- that are due. Assumes nothing.
use Prim.Native.Nat.{suc, ◌≤◌, ◌<◌, ℕ}
use mathlib.Core.Path.{◌≡◌}
use mathlib.Core.List.{List, ◌∷◌}
use Rattle.routing_table.specs.View.{view}
use Rattle.routing_table.specs.declared.RoutingTable.{RoutingTable}
use Rattle.replies.specs.Chosen.{chosen, once_from}
use Rattle.replies.specs.Nodes.{sendable}
use lib.ListN.{length, get_or}
use Rattle.reply_records.specs.Order.{entry_at}
use Rattle.reply_records.specs.Records.{slots, slotted, Slots, sent}
use Rattle.reply_records.specs.declared.order.Order.{Order}
use Rattle.reply_records.proofs.Kept.{records_from}
use Rattle.reply_records.proofs.gather.gather.Given as goal

abbrev pub whole : RoutingTable → List ℕ → Order → List (List ℕ)
whole table own order = sent (own ∷ records_from (view table) order.count order.places 0)

abbrev pub invariant-loop-place : goal.invariant-loop-place
invariant-loop-place l = record {
  few : l.kept.count ≤ suc l.place-index;
  starts : l.kept.starts ≡ slots;
  slots : Slots l.kept.count l.kept.lens l.kept.bytes;
  sized : (i : ℕ) → i < l.place-index → length (entry_at (view l.table) (get_or l.fn.order.places i 0)).contact.enr ≡ 300;
  left : once_from (slotted l.kept.bytes l.kept.lens l.kept.count) (chosen sendable (records_from (view l.table) l.fn.order.count l.fn.order.places l.place-index)) ≡ whole l.table l.own l.fn.order;
}
