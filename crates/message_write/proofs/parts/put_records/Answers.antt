-- What the check does not find alone of `message_write::parts::put_records`; the invariant beside it says how the loop goes. Assumes nothing.
use Prim.Native.Nat.{ℕ, ◌+◌, ◌<◌, ◌≤◌}
use native.Mathlib.Omega.{arith}
use mathlib.Core.Path.{◌≡◌, refl, ap₂, subst, ◌∙◌}
use mathlib.Core.List.{[], ◌∷◌, ◌++◌}
use lib.ListN.{length, get_or, take, length-append}
use lib.Seq.{length-take-le, get_or-take}
use borrow.Author.Rules.{rules}
use Rattle.std.proofs.lemmas.Slice.Zip.{zip_turn, zip_end}
use Rattle.message.specs.Reading.{part_at}
use Rattle.message_rules.proofs.Places.{part_between}
use Rattle.message_write.proofs.Turns.{Records, records_start, records_fit, records_next, records_end}
use Rattle.message_write.proofs.parts.put_records.Goals as goal
use Rattle.message_write.proofs.parts.put_records.Goals.{In-Some}

-- the record of this turn
record Turn (c : In-Some) : Type 0 where
  here : length c.loop-start.yielded < c.args.records.now.count
  start : c.in-Some.start.now ≡ get_or c.args.records.now.starts (length c.loop-start.yielded) 0
  len : c.in-Some.len.now ≡ get_or c.args.records.now.lens (length c.loop-start.yielded) 0

turn : (c : In-Some) → Turn c
turn c =
    let p = c.args.records.now in
    let t = zip_turn (take p.count p.starts) (take p.count p.lens) c.loop-start.yielded c.into_iter-start-iterator.result c.loop-start.start-iterator c.next.new.self c.next.result
    (search rules) (search rules) c.loop-start.yielded_by _ c.in-Some.is c.next.ensures.steps in
    let h : length c.loop-start.yielded < c.args.records.now.count = omega (arith, length-take-le p.count p.starts (search rules)) in
    record {
      here = h;
      start = t.2 0 ∙ get_or-take p.count p.starts (length c.loop-start.yielded) 0 h;
      len = t.3 0 ∙ get_or-take p.count p.lens (length c.loop-start.yielded) 0 h;
    }

-- there is room for it, and it is within the bytes
fit : (c : In-Some)
    → (c.loop-start.next + c.in-Some.len.now ≤ length c.args.out.now) × (c.in-Some.start.now + c.in-Some.len.now ≤ length c.args.bytes.now)
fit c =
    let t = turn c in
    let f = records_fit c.args.bytes.now c.args.records.now c.args.at c.args.out.now _ _ _ c.loop-start.invariant t.here in
    (omega arith, omega arith)

pub loop-start-init : goal.loop-start-init
loop-start-init c = records_start _ _ _ _ _ refl c.requires.0.inside c.requires.1

pub overflow_add-next : goal.overflow_add-next
overflow_add-next c =
    let f = fit (goal.at.overflow_add-next c).In-Some in
    search rules

pub loop-start-preserved : goal.loop-start-preserved
loop-start-preserved c =
    let w = (goal.at.loop-start-preserved c).In-Some in
    let t = turn w in
    let more : length c.loop-start.yielded + 1 ≡ length (c.loop-start.yielded ++ ((c.in-Some.start, c.in-Some.len) ∷ [])) =
    omega (arith, length-append c.loop-start.yielded ((c.in-Some.start, c.in-Some.len) ∷ [])) in
    subst (λ (k : ℕ). Records c.args.bytes.now c.args.records.now c.args.at c.args.out.now c.put.new.out (c.loop-start.next + c.in-Some.len.now) k) more
    (records_next _ _ _ _ _ _ _ c.loop-start.invariant t.here _ _ _
    (part_between c.args.bytes.now c.in-Some.start.now c.in-Some.len.now ∙ ap₂ (part_at c.args.bytes.now) t.start t.len)
    c.put.ensures.out_after refl _ (omega arith))

pub returns : goal.returns
returns c =
    let p = c.args.records.now in
    let n = zip_end (take p.count p.starts) (take p.count p.lens) c.loop-start.yielded c.into_iter-start-iterator.result c.loop-start.start-iterator c.next.new.self c.next.result
    (search rules) (search rules) c.loop-start.yielded_by c.in-None.is c.next.ensures.steps in
    records_end _ _ _ _ _ _ _ c.loop-start.invariant
    (omega (arith, length-take-le p.count p.starts (search rules), length-take-le p.count p.lens (search rules)))
