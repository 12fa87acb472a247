-- The rules of a routing table as facts, beside the test `good` of `specs/Good.antt`.
use Rattle.std.specs.Prelude.{ℕ, ◌≤◌, ◌≡◌, length}
use mathlib.Core.List.{List, [], ◌∷◌, Memᴰ}
use Rattle.distance.specs.Distance.{log_distance_of}
use Rattle.routing_table.specs.View.{View, ids_of, entry_logs, replacement_logs}
use Rattle.routing_table.specs.Places.{count_of}
use Rattle.routing_table.specs.declared.Contact.{Contact}
use Rattle.routing_table.specs.declared.Entry.{Entry}

infix 4 ◌among◌
-- a is in the list
abbrev pub ◌among◌ : {A : Type 0} → A → List A → Type 0
a among l = Memᴰ a l

-- no two are equal
abbrev pub Different : {A : Type 0} → List A → Type 0
Different [] = Unit {0}
Different (a ∷ l) = (¬ (a among l)) × Different l

-- the log distance of a contact from our own id
abbrev pub log_of : View → Contact → ℕ
log_of v c = log_distance_of v.own c.id

-- the record of a contact has 1 to 300 bytes
abbrev pub HasRecord : Contact → Type 0
HasRecord c = (1 ≤ c.len) × (c.len ≤ 300)

pub record Rules (v : View) : Type 0 where
  -- at most 128 entries, at most 16 of one log distance
  pub entries_most : length v.entries ≤ 128
  pub entries_each : (d : ℕ) → count_of d (entry_logs v) ≤ 16
  -- at most 16 replacements, at most 4 of one log distance
  pub replacements_most : length v.replacements ≤ 16
  pub replacements_each : (d : ℕ) → count_of d (replacement_logs v) ≤ 4
  -- a replacement only where its log distance has 16 entries
  pub full : (c : Contact) → c among v.replacements → count_of (log_of v c) (entry_logs v) ≡ 16
  -- all ids different, and our own absent
  pub different : Different (ids_of v)
  -- failures at most 3
  pub failures : (e : Entry) → e among v.entries → e.failures ≤ 3
  -- records of 1 to 300 bytes
  pub entry_records : (e : Entry) → e among v.entries → HasRecord e.contact
  pub replacement_records : (c : Contact) → c among v.replacements → HasRecord c
