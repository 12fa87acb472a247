-- What the check does not find alone of `distance::at_most`; the invariants beside it say how the loop goes. Assumes nothing.
use Rattle.std.proofs.Common.{rules, ◌≡◌, ◌∙◌, sym, ap, true, leb, length, w8, Fits, get_or, arith}
use mathlib.Core.Logic.{⊎_elim}
use Rattle.octets.specs.Bytes.{be}
use Rattle.octets.specs.Order.{lex_leb}
use Rattle.octets.proofs.Numbers.{bytes_all}
use Rattle.octets.proofs.Order.{lex_be, lex_differ, lex_equal, lex_empty}
use Rattle.distance.proofs.at_most.Goals as goal
use Rattle.distance.proofs.at_most.Goals.{Start}

-- the order of the arrays is that of their numbers
numbers : (c : Start) → lex_leb c.args.a c.args.b ≡ leb (be c.args.a) (be c.args.b)
numbers c =
    let a = c.args.a in
    let b = c.args.b in
    lex_be a b (search rules) (bytes_all a (λ i. let f : Fits w8 (get_or a i 0) = search rules in omega arith))
    (bytes_all b (λ i. let f : Fits w8 (get_or b i 0) = search rules in omega arith))

pub returns-then-x-y : goal.returns-then-x-y
returns-then-x-y c =
    let steps = c.in-Some.ensures.steps in
    sym (lex_differ _ _ _ _ _ _ steps.0 steps.1 (search rules)) ∙ sym c.loop-x.invariant.1 ∙ numbers (goal.at.returns-then-x-y c).Start

pub loop-x-preserved : goal.loop-x-preserved
loop-x-preserved c =
    let steps = c.in-Some.ensures.steps in
    (omega (arith, ap length steps.0, ap length steps.1), c.loop-x.invariant.1 ∙ lex_equal _ _ _ _ _ _ steps.0 steps.1 (search rules))

pub returns : goal.returns
returns c =
    let none : length c.loop-x.x-iterator.a.rest.now ≡ 0 = ⊎_elim (λ w. w.1.0) (λ w. c.loop-x.invariant.0 ∙ w.1.0) c.in-None.ensures.steps in
    let all : leb (be c.args.a) (be c.args.b) ≡ true = sym (numbers (goal.at.returns c).Start) ∙ c.loop-x.invariant.1 ∙ lex_empty _ _ none in
    search rules
