-- `distance::asked` meets its contract: the search of std is the search of the definition. Assumes nothing.
use Rattle.std.proofs.Common.{rules, arith}
use Rattle.distance.proofs.Requests.{asked_any}
use Rattle.distance.proofs.asked.Goals as goal

pub returns-in-Ok : goal.returns-in-Ok
returns-in-Ok c = asked_any c.args.distances.now c.args.log c.in-Ok.log _ (search rules) (search rules) (omega arith)
