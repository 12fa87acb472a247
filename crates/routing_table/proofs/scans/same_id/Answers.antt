-- `routing_table::scans::same_id` meets its contract: what is compared are the two ids. Assumes nothing.
use native.Mathlib.Omega.{arith}
use Rattle.std.proofs.Common.{◌∙◌, ap}
use Rattle.std.proofs.lemmas.List.{set-get_or}
use Rattle.octets.specs.Equal.{same_bytes}
use Rattle.octets.proofs.Equal.{same_pointwise}
use Rattle.routing_table.proofs.scans.same_id.Goals as goal

pub returns : goal.returns
returns c = c.eq.ensures ∙ same_pointwise _ _ ∙ ap (same_bytes c.args.a) (grind (arith, set-get_or c.args.b))
