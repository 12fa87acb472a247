-- `content::held` meets its contract: content of 1 to 1,267 bytes is sent, else the connection id unless it is zero. Assumes nothing.
use Prim.Native.Nat.{ℕ, ◌<◌, ◌≤◌}
use native.Mathlib.Omega.{arith}
use mathlib.Core.Path.{◌≡◌, ap}
use mathlib.Core.Logic.{◌⊎◌, inl, inr, ⊎_elim}
use borrow.Author.Rules.{rules}
use borrow.Author.Tests.{leb-true}
use Rattle.refusal.specs.declared.Refusal.TheVariants.{Unusable}
use Rattle.octets.specs.Bytes.{le}
use Rattle.replies.specs.Reply.{in_room}
use Rattle.reply.proofs.Answers.{replies_as, refused_replies}
use Rattle.reply.proofs.Contents.{single_content, single_connection, held_content, held_connection, held_none}
use Rattle.reply.proofs.content.held.Goals as goal

pub alone-requires : goal.alone-requires
alone-requires c = single_content _ (omega (arith, leb-true))

pub returns-then-content-le-CONTENT : goal.returns-then-content-le-CONTENT
returns-then-content-le-CONTENT c =
    replies_as c.alone.ensures (ap (in_room _) (held_content c.args.content.now c.args.connection (omega arith) (omega (arith, leb-true))))

-- the content has no bytes, or too many
way : (n : ℕ) → ((0 < n) × (1267 < n)) ⊎ (n ≤ 0) → (n ≡ 0) ⊎ (1267 < n)
way n e = ⊎_elim (λ w. inr w.1) (λ h. inl (omega arith)) e

pub returns-then-le4-eq0 : goal.returns-then-le4-eq0
returns-then-le4-eq0 c =
    let zero : le c.args.connection ≡ 0 = omega (arith, c.le4.ensures) in
    refused_replies Unusable c.args.out.now (search rules)
    (ap (in_room _) (held_none c.args.content.now c.args.connection (way _ c.else-content-gt0.either) zero))

pub alone-requires-2 : goal.alone-requires-2
alone-requires-2 c = single_connection _

pub returns : goal.returns
returns c =
    let some : 0 < le c.args.connection = omega (arith, c.le4.ensures) in
    replies_as c.alone-2.ensures
    (ap (in_room _) (held_connection c.args.content.now c.args.connection (way _ c.else-content-gt0.either) some))
