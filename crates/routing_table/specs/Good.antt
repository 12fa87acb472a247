-- The rules of a routing table (number 0 in document 02), as a test.
use Rattle.std.specs.Prelude.{ℕ, Bool, ◌&&◌, List, leb, length}
use Rattle.std.specs.List.{list_all}
use Rattle.octets.specs.Equal.{same_bytes, all_different}
use Rattle.routing_table.specs.View.{View, ids_of, entry_logs, replacement_logs}
use Rattle.routing_table.specs.Places.{count_of}
use Rattle.routing_table.specs.declared.Contact.{Contact}
use Rattle.routing_table.specs.declared.Entry.{Entry}

-- no log distance stands more than n times in the list
abbrev pub none_over : ℕ → List ℕ → Bool
none_over n logs = list_all (λ (d : ℕ). leb (count_of d logs) n) logs

-- each log distance of the list has 16 entries
abbrev pub each_full : List ℕ → List ℕ → Bool
each_full entries logs = list_all (λ (d : ℕ). leb 16 (count_of d entries)) logs

-- a record has 1 to 300 bytes
abbrev pub record_fits : ℕ → Bool
record_fits len = leb 1 len && leb len 300

abbrev pub sized : Contact → Bool
sized c = record_fits c.len

-- the failures are counted up to three, and the record has its size
abbrev pub sound_entry : Entry → Bool
sound_entry e = leb e.failures 3 && sized e.contact

abbrev pub sound : View → Bool
sound v = list_all sound_entry v.entries && list_all sized v.replacements

-- at most 128 entries and 16 replacements; failures at most 3 and records of 1 to 300 bytes; all ids different, our own among them; at
-- most 16 entries and 4 replacements of one log distance; a replacement only where its log distance has 16 entries
unfoldable pub good : View → Bool
good v =
    leb (length v.entries) 128
    && leb (length v.replacements) 16
    && sound v
    && all_different same_bytes (ids_of v)
    && none_over 16 (entry_logs v)
    && none_over 4 (replacement_logs v)
    && each_full (entry_logs v) (replacement_logs v)
