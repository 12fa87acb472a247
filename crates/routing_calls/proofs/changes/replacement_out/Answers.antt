-- What the check does not find alone of `routing_calls::changes::replacement_out`; the invariant beside it says how the loop goes. Assumes
-- nothing.
use Prim.Native.Nat.{ℕ, ◌-◌}
use native.Mathlib.Omega.{arith}
use mathlib.Core.Path.{◌≡◌, refl, ap, ap₂, ◌∙◌}
use mathlib.Core.List.{List}
use lib.ListN.{length, length-set}
use borrow.Author.Rules.{rules}
use Rattle.routing_table.specs.View.{no_contact}
use Rattle.routing_table.specs.declared.Contact.{Contact}
use Rattle.routing_table.specs.declared.RoutingTable.{RoutingTable}
use Rattle.routing_calls.specs.Arrays.{closed, table_replacements}
use Rattle.routing_calls.proofs.Closed.{closed_none, closed_more}
use Rattle.routing_calls.proofs.changes.replacement_out.Goals as goal

pub loop-i-init : goal.loop-i-init
loop-i-init c =
    let t = c.args.table.now in
    (refl, ap (table_replacements t t.waiting) (closed_none t.replacements c.args.at _ (search rules)))

pub loop-i-preserved : goal.loop-i-preserved
loop-i-preserved c =
    let moved = c.loop-i.table.replacements in
    let so_far = c.loop-i.invariant in
    let long : length moved ≡ 16 = search rules in (
      length-set moved _ _ ∙ so_far.0,
      ap₂ (λ (t : RoutingTable) (cs : List Contact). table_replacements t t.waiting cs) so_far.1
          (closed_more _ c.args.at moved c.loop-i.i _ no_contact (ap (λ (t : RoutingTable). t.replacements) so_far.1) (search rules) (omega arith) (omega arith)),
    )

pub returns : goal.returns
returns c =
    let t = c.args.table.now in
    let e : c.loop-i.i ≡ t.waiting - 1 = omega arith in
    ap (λ (r : RoutingTable). table_replacements r (t.waiting - 1) r.replacements) c.loop-i.invariant.1
    ∙ ap (λ (i : ℕ). table_replacements t (t.waiting - 1) (closed c.args.at i t.replacements)) e
