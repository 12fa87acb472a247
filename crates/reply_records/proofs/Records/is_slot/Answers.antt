-- `reply_records::Records::is_slot` meets its contract: records that end in different bytes differ. Assumes nothing.
use Rattle.std.proofs.Common.{◌∙◌, sym, ap, ◌*◌, get_or}
use Rattle.octets.specs.Equal.{same_bytes}
use Rattle.octets.proofs.Equal.{same_pointwise}
use Rattle.message_rules.proofs.Places.{part_between}
use Rattle.reply_records.proofs.Slotted.{last_differs}
use Rattle.reply_records.proofs.Records.is_slot.Goals as goal

pub returns-then-eq : goal.returns-then-eq
returns-then-eq c =
    let s = c.args.self.now in
    let i = c.args.i in
    c.eq-then-eq.ensures ∙ same_pointwise c.args.offered.now _ ∙ ap (same_bytes c.args.offered.now) (part_between s.bytes (300 * i) (get_or s.lens i 0))

pub returns-else-eq : goal.returns-else-eq
returns-else-eq c =
    let s = c.args.self.now in
    let i = c.args.i in
    c.if-eq.false ∙ sym (sym (ap (same_bytes c.args.offered.now) (part_between s.bytes (300 * i) (get_or s.lens i 0))) ∙ last_differs _ _ c.args.offered.now _ c.last.ensures.value c.last-2.ensures.value (sym c.eq.ensures ∙ c.if-eq.false))
