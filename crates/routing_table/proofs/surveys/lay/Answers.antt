-- What the check does not find alone of `routing_table::surveys::lay`; the invariant beside it says how the loop goes. Assumes nothing.
use Prim.Native.Nat.{ℕ, ◌+◌}
use native.Mathlib.Omega.{arith}
use mathlib.Core.Path.{◌≡◌, refl, sym, ap, ap₂, ◌∙◌}
use mathlib.Core.List.{List, ◌++◌, append_assoc, map}
use lib.ListN.{length, get_or, set, take, drop, length-map, get_or-map}
use Rattle.std.proofs.lemmas.Fn.{says_at}
use Rattle.std.proofs.lemmas.List.Edits.{paste_more, paste_all, paste_none}
use Rattle.routing_table.proofs.surveys.lay.Goals as goal

pub loop-i-init : goal.loop-i-init
loop-i-init g c = λ f computes. paste_none c.args.slots.now c.args.at (map f c.args.items.now)

pub loop-i-preserved : goal.loop-i-preserved
loop-i-preserved g c = λ f computes.
    let a = c.args in
    let x = c.index-items-i.result in
    let made : c.make.result ≡ f x = computes x c.make.result (says_at g.F.Fn c.make.ensures refl) in
    let here : c.make.result ≡ get_or (map f a.items.now) c.loop-i.i (f x) =
    made ∙ ap f c.index-items-i.is ∙ sym (get_or-map f a.items.now c.loop-i.i x) in
    let n = length-map a.items.now f in
    ap₂ (λ (s : List g.row.U.Denot) (y : g.row.U.Denot). set s (a.at + c.loop-i.i) y) (c.loop-i.invariant f computes) here
    ∙ paste_more a.slots.now a.at (map f a.items.now) c.loop-i.i (f x) (omega (arith, c.requires.room)) (omega arith)

pub returns : goal.returns
returns g c = λ f computes.
    let a = c.args in
    let made = map f a.items.now in
    let long : length made ≡ length a.items.now = length-map a.items.now f in
    let all : c.loop-i.i ≡ length a.items.now = omega arith in
    c.loop-i.invariant f computes ∙ paste_all a.slots.now a.at made c.loop-i.i (all ∙ sym long)
    ∙ ap (λ (k : ℕ). take a.at a.slots.now ++ (made ++ drop (a.at + k) a.slots.now)) all
    ∙ sym (append_assoc (take a.at a.slots.now) made (drop (a.at + length a.items.now) a.slots.now))
