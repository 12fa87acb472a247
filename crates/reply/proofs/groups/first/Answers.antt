-- What the check does not find alone of `groups::first`; the invariants beside it say how the loop goes. Assumes nothing.
use native.Mathlib.Omega.{arith}
use mathlib.Core.Path.{refl}
use mathlib.Core.Logic.{inl, inr}
use borrow.Author.Tests.{ltb-false}
use Rattle.reply.proofs.Taking.{taking_start, taking_end, taking_stop, taking_next}
use Rattle.reply.proofs.groups.first.Goals as goal
use Rattle.reply.proofs.groups.first.Goals.{then-i-ge32-via-then-i-ge32, then-i-ge32-via-else-i-ge32+then-size-len-gt1280}

pub loop-i-init : goal.loop-i-init
loop-i-init c = taking_start _ _ (omega arith)

pub overflow_add-len : goal.overflow_add-len
overflow_add-len c =
    omega (arith, c.requires.1 c.loop-i.i (omega arith))

pub overflow_add-size : goal.overflow_add-size
overflow_add-size c =
    omega (arith, c.requires.1 c.loop-i.i (omega arith), c.loop-i.invariant.small)

-- the next one does not fit: there are 32, or its bytes are too many
pub returns-then-i-ge32 : goal.returns-then-i-ge32
returns-then-i-ge32 c =
    taking_stop _ _ _ _ c.loop-i.invariant (omega arith) _ refl (elim c.then-i-ge32.branch [ then-i-ge32-via-then-i-ge32 w ↦ inl w.if-i-ge32.true | then-i-ge32-via-else-i-ge32+then-size-len-gt1280 w ↦ inr (omega arith) ]) _ refl refl

pub overflow_add-size-in-loop-i : goal.overflow_add-size-in-loop-i
overflow_add-size-in-loop-i c =
    omega (arith, c.requires.1 c.loop-i.i (omega arith))

pub overflow_add-size-in-loop-i-2 : goal.overflow_add-size-in-loop-i-2
overflow_add-size-in-loop-i-2 c =
    omega (arith, c.requires.1 c.loop-i.i (omega arith), c.loop-i.invariant.small)

pub loop-i-preserved : goal.loop-i-preserved
loop-i-preserved c =
    taking_next _ _ _ _ c.loop-i.invariant (omega arith) _ refl (omega arith) (omega (arith, ltb-false)) _ refl

pub returns : goal.returns
returns c =
    taking_end _ _ _ _ c.loop-i.invariant (omega arith) _ (omega arith) refl
