-- `reply_records::nearer` meets its contract: the closure tells who is nearer. Assumes nothing.
use Rattle.std.proofs.Common.{ℕ, Bool, List, ltb, ap, ◌∙◌}
use Rattle.octets.specs.Bytes.{be}
use Rattle.distance.specs.Distance.{distance_of}
use Rattle.reply_records.proofs.nearer.Goals as goal

pub returns : goal.returns
returns c =
    let a = c.args in
    let test : List ℕ → Bool = (λ (id : List ℕ). ltb (distance_of a.id id) (distance_of a.id a.table.now.own)) in
    record {
      whole = λ few. c.found.ensures.whole test (record { told = λ id r p. p.1 ∙ ap (λ (d : List ℕ). ltb (distance_of a.id id) (be d)) c.xor-ours.ensures }) few;
      records = λ few. c.found.ensures.records test (record { told = λ id r p. p.1 ∙ ap (λ (d : List ℕ). ltb (distance_of a.id id) (be d)) c.xor-ours.ensures }) few;
    }
