-- What the check does not find alone of `key_lines::feed`: a turn is the law `stored` or `passed`, by whether there was room. Assumes nothing.
use Rattle.std.proofs.Common.{rules, ◌++◌, List, ℕ, sym, subst}
use mathlib.Core.List.{append-nil}
use lib.ListN.{get_or}
use lib.Seq.{take_all}
use Rattle.key_lines.specs.State.{Begun}
use Rattle.key_lines.specs.declared.Line.{Line}
use Rattle.key_lines.proofs.States.{stored, passed, next_of}
use Rattle.key_lines.proofs.feed.Goals as goal
use Rattle.key_lines.proofs.feed.Goals.{then-len-lt18, else-len-lt18}

pub loop-c-init : goal.loop-c-init
loop-c-init c = λ text b. subst (Begun c.args.line) (sym (append-nil text)) b

pub loop-c-preserved : goal.loop-c-preserved
loop-c-preserved c = λ text b.
    let part = c.args.part.now in
    let old = c.loop-c.invariant text b in
    let next : Line = record { first = c.if-len-lt18.first; len = c.capped_more-len.result; bad = c.worse-bad.result } in
    subst (Begun next) (sym (next_of text part c.loop-c.c-index (search rules)))
    (elim c.if-len-lt18.branch [
      | then-len-lt18 w ↦ stored _ _ _ _ old (get_or part c.loop-c.c-index 0) _ w.if-len-lt18.true w.first-is _ c.capped_more-len.ensures _ c.worse-bad.ensures
      | else-len-lt18 w ↦ passed _ _ _ _ old (get_or part c.loop-c.c-index 0) _ w.if-len-lt18.false w.first-is _ c.capped_more-len.ensures _ c.worse-bad.ensures
    ])

pub returns : goal.returns
returns c = λ text b.
    let line : Line = record { first = c.loop-c.first; len = c.loop-c.len; bad = c.loop-c.bad } in
    subst (λ (l : List ℕ). Begun line (text ++ l)) (take_all c.loop-c.c-index c.args.part.now (search rules)) (c.loop-c.invariant text b)
