-- How an id stands in a table: `find` tests 0.
use Rattle.std.specs.Prelude.{ℕ, cond, List, get_or, Option, Some, None, Result, Ok, Err}
use Rattle.refusal.specs.Says.{Said, only, says_of}
use Rattle.refusal.specs.declared.Refusal.{Refusal}
use Rattle.octets.specs.Equal.{same_bytes, holds}
use Rattle.routing_table.specs.View.{View, no_contact, no_entry, entry_ids, replacement_ids}
use Rattle.routing_table.specs.Places.{first_place}
use Rattle.routing_table.specs.Good.{good}
use Rattle.routing_table.specs.declared.Contact.{Contact}
use Rattle.routing_table.specs.declared.Entry.{Entry}
use Rattle.routing_table.specs.declared.Found.{Found}

pub data Finding : Type 0 where
  refused : Said → Finding
  entry : Entry → Finding
  replacement : Contact → Finding
  absent : Finding

-- the entry and the replacement with an id
abbrev pub entry_with : View → List ℕ → Entry
entry_with v id = get_or v.entries (first_place same_bytes id (entry_ids v)) no_entry

abbrev pub replacement_with : View → List ℕ → Contact
replacement_with v id = get_or v.replacements (first_place same_bytes id (replacement_ids v)) no_contact

unfoldable pub find_of : View → List ℕ → Finding
find_of v id =
    cond (good v)
    (cond (holds same_bytes id (entry_ids v)) (entry (entry_with v id))
    (cond (holds same_bytes id (replacement_ids v)) (replacement (replacement_with v id))
    absent))
    (refused (only 0))

-- what an answer of `find` stands for
abbrev pub meaning_of : Result (Option Found) Refusal → Finding
meaning_of (Ok (Some (Found.Entry e))) = entry e
meaning_of (Ok (Some (Found.Replacement c))) = replacement c
meaning_of (Ok None) = absent
meaning_of (Err why) = refused (says_of why)
