-- `routing_table::surveys::ids_of` meets its contract: two lists laid behind our own id (`proofs/Laid.antt`). Assumes nothing.
use mathlib.Core.Path.{refl}
use mathlib.Core.List.{map}
use lib.ListN.{length, replicate, length-map}
use borrow.Author.Rules.{rules}
use Rattle.routing_table.specs.View.{entry_id, contact_id}
use Rattle.routing_table.proofs.Laid.{laid}
use Rattle.routing_table.proofs.surveys.ids_of.Goals as goal

pub returns : goal.returns
returns c =
    let e = c.args.entries.now in
    let w = c.args.replacements.now in
    laid c.args.own (map entry_id e) (map contact_id w) (replicate 145 c.args.own) _ _ (length e) (length w) (length-map e entry_id) (length-map w contact_id) refl
    (c.lay.ensures entry_id (λ x r k. let m = k.says.met in let i = k.shows in search rules)) (c.lay-2.ensures contact_id (λ x r k. let m = k.says.met in let i = k.shows in search rules))
