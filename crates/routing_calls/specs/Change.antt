-- Views with other entries or other replacements, and an entry that has not failed.
use Rattle.std.specs.Prelude.{List}
use Rattle.routing_table.specs.View.{View}
use Rattle.routing_table.specs.declared.Contact.{Contact}
use Rattle.routing_table.specs.declared.Entry.{Entry}

-- a contact as an entry with no failures
abbrev pub entry_of : Contact → Entry
entry_of c = record { contact = c; failures = 0 }

abbrev pub with_entries : View → List Entry → View
with_entries v es = record { own = v.own; entries = es; replacements = v.replacements }

abbrev pub with_replacements : View → List Contact → View
with_replacements v cs = record { own = v.own; entries = v.entries; replacements = cs }
