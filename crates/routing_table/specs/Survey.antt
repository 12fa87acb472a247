-- What a call wants to know of a table and an id, in one record of the code.
use Rattle.std.specs.Prelude.{ℕ, ◌≡◌, cond, List, length, eqb, Option, Some, None}
use Rattle.octets.specs.Equal.{same_bytes}
use Rattle.distance.specs.Distance.{log_distance_of}
use Rattle.routing_table.specs.View.{View, entry_ids, replacement_ids, entry_logs, replacement_logs}
use Rattle.routing_table.specs.Places.{first_of, last_of, count_of}
use Rattle.routing_table.specs.Good.{good}
use Rattle.routing_table.specs.declared.Facts.{Facts}
use Rattle.routing_table.specs.declared.RoutingTable.{RoutingTable}

-- of an id at log distance d, in a table that keeps its rules
abbrev pub facts_of : View → List ℕ → ℕ → Facts
facts_of v id d = record {
  own = same_bytes v.own id;
  entry = first_of same_bytes id (entry_ids v);
  replacement = first_of same_bytes id (replacement_ids v);
  entries = count_of d (entry_logs v);
  replacements = count_of d (replacement_logs v);
  oldest = first_of eqb d (replacement_logs v);
  newest = last_of eqb d (replacement_logs v);
}

-- none of a table that breaks them
unfoldable pub survey_of : View → List ℕ → Option Facts
survey_of v id = cond (good v) (Some (facts_of v id (log_distance_of v.own id))) None

-- the arrays have their sizes
pub record Sized (t : RoutingTable) : Type 0 where
  pub entries : length t.entries ≡ 128
  pub replacements : length t.replacements ≡ 16
