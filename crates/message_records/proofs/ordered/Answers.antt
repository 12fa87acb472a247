-- `message_records::ordered` meets its contract: a test of each pair of offsets tells the order (`proofs/Offsets.antt`). Assumes nothing.
use Rattle.std.proofs.Common.{rules, ◌≡◌, ◌-◌, ◌∙◌, arith, refl, tests}
use Rattle.std.proofs.lemmas.Iterator.{YieldsList-from_range}
use Rattle.std.proofs.lemmas.Iterator.Search.{all_from_yields_List}
use Rattle.message_records.proofs.Offsets.{rises, all_rise}
use Rattle.message_records.proofs.ordered.Goals as goal

pub returns : goal.returns
returns c =
    let l = c.args.list.now in
    let n = c.args.count in
    let many : c.args.count - 0 ≡ c.args.count = omega arith in
    all_from_yields_List (rises l n) _ _ _ c.all.ensures.ran (YieldsList-from_range 0 n n refl many) (λ x b q k. search (rules, tests))
    ∙ all_rise l n n 0 (omega arith)
