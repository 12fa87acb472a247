-- `reply_records::asked` meets its contract: the closure asks for a log distance. Assumes nothing.
use Rattle.std.proofs.Common.{ℕ, Bool, List}
use Rattle.distance.specs.Distance.{log_distance_of, asked_of}
use Rattle.reply_records.proofs.asked.Goals as goal

pub returns : goal.returns
returns c =
    let a = c.args in
    let test : List ℕ → Bool = (λ (id : List ℕ). asked_of a.distances.now (log_distance_of a.table.now.own id)) in
    record {
      whole = λ few. c.found.ensures.whole test (record { told = λ id r p. p.1 }) few;
      records = λ few. c.found.ensures.records test (record { told = λ id r p. p.1 }) few;
    }
