-- `reply_records::Records::has` meets its contract: the search by places is the search in the list (`proofs/Slotted.antt`). Assumes nothing.
use Rattle.std.proofs.Common.{rules, ℕ, ◌≡◌, ◌*◌, ◌-◌, ◌∙◌, get_or, arith, refl, tests}
use Rattle.std.proofs.lemmas.Iterator.{YieldsList-from_range}
use Rattle.std.proofs.lemmas.Iterator.Search.{any_from_yields_List}
use Rattle.octets.specs.Equal.{same_bytes}
use Rattle.message.specs.Reading.{part_at}
use Rattle.reply_records.proofs.Slotted.{slots_hold}
use Rattle.reply_records.proofs.Records.has.Goals as goal

pub returns : goal.returns
returns c =
    let s = c.args.self.now in
    let many : s.count - 0 ≡ s.count = omega arith in
    any_from_yields_List (λ (i : ℕ). same_bytes c.args.offered.now (part_at s.bytes (300 * i) (get_or s.lens i 0))) _ _ _ c.any.ensures.ran (YieldsList-from_range 0 s.count s.count refl many) (λ x b q k. search (rules, tests))
    ∙ slots_hold c.args.offered.now s.count s.lens s.bytes c.requires
