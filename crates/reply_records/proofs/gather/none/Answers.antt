-- `reply_records::gather::none` meets its contract: the slots start where the table of them says. Assumes nothing.
use Rattle.std.proofs.Common.{rules, ℕ, ◌*◌, sym, ◌∙◌, arith}
use Rattle.octets.proofs.Made.{made_at}
use Rattle.std.proofs.lemmas.Grind.{same_number_lists}
use Rattle.reply_records.specs.Records.{slots}
use Rattle.reply_records.proofs.Slotted.{slot_at, slots_length}
use Rattle.reply_records.proofs.gather.none.Goals as goal

pub returns-clause-starts : goal.returns-clause-starts
returns-clause-starts c =
    let made = c.from_fn.ensures.items in
    same_number_lists c.from_fn.result slots (made.long ∙ sym slots_length)
    (λ k h.
    made_at _ _ (λ (i : ℕ). 300 * i) _ 129 (λ j y q s call. search rules) made k 0 (omega (arith, made.long)) ∙ sym (slot_at k (omega (arith, made.long))))
