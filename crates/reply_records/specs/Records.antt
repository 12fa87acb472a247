-- Records in slots of 300 bytes: what stands there, and what keeping one more does.
use Rattle.std.specs.Prelude.{ℕ, suc, ◌*◌, ◌≤◌, ◌<◌, ◌≡◌, cond, List, [], ◌∷◌, ◌++◌, map, length, get_or, take}
use Rattle.octets.specs.Equal.{same_bytes, holds}
use Rattle.octets.specs.Table.{table_of}
use Rattle.message.specs.Reading.{records_at}
use Rattle.routing_table.specs.View.{View}
use Rattle.routing_table.specs.Rules.{◌among◌}
use Rattle.routing_table.specs.declared.Entry.{Entry}
use Rattle.replies.specs.Chosen.{chosen, entry_record, once}
use Rattle.replies.specs.Nodes.{sendable}
use Rattle.reply_records.specs.Order.{entry_at}
use Rattle.reply_records.specs.declared.Records.{Records}
use Rattle.reply_records.specs.declared.order.Order.{Order}

-- where the slots start
unfoldable pub slots : List ℕ
slots = table_of (λ (i : ℕ). 300 * i) 129

-- the first n records, each in its slot
abbrev pub slotted : List ℕ → List ℕ → ℕ → List (List ℕ)
slotted bytes lens n = records_at bytes slots lens n

-- a record behind those kept: not one without bytes or with more than 300, and not one that is kept already
abbrev pub kept_with : List ℕ → List (List ℕ) → List (List ℕ)
kept_with record' kept = cond (sendable record') (cond (holds same_bytes record' kept) kept (kept ++ record' ∷ [])) kept

-- the slots hold `count` records
pub record Slots (count : ℕ) (lens bytes : List ℕ) : Type 0 where
  pub few : count ≤ 129
  pub places : length lens ≡ 129
  pub room : length bytes ≡ 38700
  pub small : (i : ℕ) → i < count → get_or lens i 0 ≤ 300

-- a record is offered to the slots: how many they hold now, and the slots at exit
pub record Keeps (offered : List ℕ) (count : ℕ) (lens bytes : List ℕ) (now : ℕ) (lens' bytes' : List ℕ) : Type 0 where
  pub most : now ≤ suc count
  pub slots : Slots now lens' bytes'
  pub are : slotted bytes' lens' now ≡ kept_with offered (slotted bytes lens count)

-- these records, in slots
pub record Holds (records : List (List ℕ)) (r : Records) : Type 0 where
  pub starts : r.starts ≡ slots
  pub slots : Slots r.count r.lens r.bytes
  pub are : slotted r.bytes r.lens r.count ≡ records

-- the records that can be sent of some records, each once
abbrev pub sent : List (List ℕ) → List (List ℕ)
sent records = once (chosen sendable records)

-- the records of these entries stand in 300 bytes
pub record Whole (entries : List Entry) : Type 0 where
  pub each : (e : Entry) → e among entries → length e.contact.enr ≡ 300

-- our own record and those of the entries at the places
abbrev pub Gathers : View → List ℕ → Order → Records → Type 0
Gathers v own order r = Holds (sent (own ∷ map entry_record (map (entry_at v) (take order.count order.places)))) r
