-- `message_rules::all_within` meets its contract: the test of all pairs is that of the definition. Assumes nothing.
use Rattle.std.proofs.Common.{rules, ℕ, ◌≡◌, length, tests}
use borrow.Author.Tests.{eq-eqb}
use Rattle.std.specs.List.{list_all, zip}
use Rattle.std.proofs.lemmas.Iterator.{YieldsList-from_slice, YieldsList-from_zip}
use Rattle.std.proofs.lemmas.Iterator.Search.{all_from_yields_List}
use Rattle.message_rules.specs.Good.{within}
use Rattle.message_rules.proofs.all_within.Goals as goal

pub returns-then-starts-lens : goal.returns-then-starts-lens
returns-then-starts-lens c =
    let a = c.args in
    let all : c.all.result ≡ list_all (λ (place : ℕ × ℕ). within a.bytes.now place.0 place.1) (zip a.starts.now a.lens.now) =
    all_from_yields_List (λ (place : ℕ × ℕ). within a.bytes.now place.0 place.1) c.all.new.self _ _ c.all.ensures.ran
    (YieldsList-from_zip (YieldsList-from_slice a.starts.now (search rules)) (YieldsList-from_slice a.lens.now (search rules)))
    (λ x b q k. search (rules, tests)) in
    rw (eq-eqb (length a.starts.now) (length a.lens.now) c.if-starts-lens.true) all
