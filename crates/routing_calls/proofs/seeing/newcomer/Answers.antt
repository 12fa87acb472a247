-- `routing_calls::seeing::newcomer` meets its contract: each way out is a case of the definition (`proofs/Sightings.antt`). Assumes nothing.
use mathlib.Core.Path.{◌∙◌}
use borrow.Author.Rules.{rules}
use Rattle.routing_calls.proofs.Sightings.{new_waits, new_full, new_entry}
use Rattle.routing_calls.proofs.seeing.newcomer.Goals as goal

pub returns-then-told-ge-ENTRIES_EACH : goal.returns-then-told-ge-ENTRIES_EACH
returns-then-told-ge-ENTRIES_EACH c = c.waits.ensures ∙ new_waits _ _ _ c.requires.entries (search rules)

pub returns-then-table-ge-ENTRIES : goal.returns-then-table-ge-ENTRIES
returns-then-table-ge-ENTRIES c = new_full _ _ _ c.requires.entries _ _ (search rules) (search rules) (search rules) (search rules)

pub returns : goal.returns
returns c = new_entry _ _ _ c.requires.entries c.requires.sized (search rules) (search rules) _ _ (search rules) (search rules)
