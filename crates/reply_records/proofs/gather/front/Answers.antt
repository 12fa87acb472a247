-- `reply_records::gather::front` meets its contract. Assumes nothing.
use Rattle.std.proofs.Common.{rules, ◌≡◌, length, min}
use Rattle.reply_records.proofs.Slotted.{take_capped}
use Rattle.reply_records.proofs.gather.front.Goals as goal

pub returns : goal.returns
returns c =
    let long : length c.args.enr.now ≡ 300 = search rules in
    record { part = take_capped c.args.enr.now _ c.args.len c.min.ensures long; size = long }
