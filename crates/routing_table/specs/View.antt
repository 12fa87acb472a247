-- The routing table as a caller may think of it ("table of neighbours" in document 02): our own id, the entries ("rows") in some order, and
-- the replacements ("waiters"), longest unseen first. What stands in unused places is no part of it.
use Rattle.std.specs.Prelude.{ℕ, zero, suc, List, [], ◌∷◌, ◌++◌, map, take}
use Rattle.distance.specs.Distance.{log_distance_of}
use Rattle.routing_table.specs.declared.Contact.{Contact}
use Rattle.routing_table.specs.declared.Entry.{Entry}
use Rattle.routing_table.specs.declared.RoutingTable.{RoutingTable}

pub record View : Type 0 where
  pub own : List ℕ
  pub entries : List Entry
  pub replacements : List Contact

-- the first n of a list; behind its end, as many of the other value as are missing
unfoldable pub firsts : {A : Type 0} → A → ℕ → List A → List A
firsts other zero l = []
firsts other (suc n) [] = other ∷ firsts other n []
firsts other (suc n) (a ∷ l) = a ∷ firsts other n l

-- no contact, and no entry: what is read where there is none
abbrev pub no_contact : Contact
no_contact = record { id = []; radius = []; address = []; port = 0; len = 0; enr = [] }

abbrev pub no_entry : Entry
no_entry = record { contact = no_contact; failures = 0 }

-- the node record of a contact
abbrev pub record_of : Contact → List ℕ
record_of c = take c.len c.enr

abbrev pub view : RoutingTable → View
view t = record {
  own = t.own;
  entries = firsts no_entry t.count t.entries;
  replacements = firsts no_contact t.waiting t.replacements;
}

-- a fresh table
abbrev pub fresh_of : List ℕ → View
fresh_of own = record { own = own; entries = []; replacements = [] }

-- the ids of the entries, and of the replacements
abbrev pub entry_id : Entry → List ℕ
entry_id e = e.contact.id

abbrev pub contact_id : Contact → List ℕ
contact_id c = c.id

abbrev pub entry_ids : View → List (List ℕ)
entry_ids v = map entry_id v.entries

abbrev pub replacement_ids : View → List (List ℕ)
replacement_ids v = map contact_id v.replacements

-- our own id, then theirs
abbrev pub ids_of : View → List (List ℕ)
ids_of v = v.own ∷ entry_ids v ++ replacement_ids v

-- the log distances of ids from our own ("distance class" in document 02)
abbrev pub logs_of : List ℕ → List (List ℕ) → List ℕ
logs_of own ids = map (log_distance_of own) ids

abbrev pub entry_logs : View → List ℕ
entry_logs v = logs_of v.own (entry_ids v)

abbrev pub replacement_logs : View → List ℕ
replacement_logs v = logs_of v.own (replacement_ids v)
