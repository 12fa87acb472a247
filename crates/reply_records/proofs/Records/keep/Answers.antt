-- `reply_records::Records::keep` meets its contract (`proofs/Slotted.antt`). Assumes nothing.
use Rattle.std.proofs.Common.{arith, refl, sym, ◌∙◌, rules}
use Rattle.reply_records.proofs.Slotted.{sendable_is, keeps_not, keeps_held, keeps_new}
use Rattle.reply_records.proofs.Records.keep.Goals as goal

pub returns-then-not-record_fits : goal.returns-then-not-record_fits
returns-then-not-record_fits c =
    let s = c.args.self.now in
    (refl, keeps_not c.args.offered.now s.count s.lens s.bytes c.requires.1 (sym c.record_fits.ensures ∙ c.if-not-record_fits.true))

pub returns-then-has : goal.returns-then-has
returns-then-has c =
    let s = c.args.self.now in
    (refl, keeps_held c.args.offered.now s.count s.lens s.bytes c.requires.1 (sym c.record_fits.ensures ∙ c.if-not-record_fits.false) (sym c.has.ensures ∙ c.if-has.true))

pub returns : goal.returns
returns c =
    let s = c.args.self.now in
    let e = sym c.record_fits.ensures ∙ c.if-not-record_fits.false in
    (refl, keeps_new c.args.offered.now s.count s.lens s.bytes c.requires.1 e (sym c.has.ensures ∙ c.if-has.false) c.requires.0 (sendable_is c.args.offered.now e).1 _ (search rules) _ (omega arith) _ _ refl c.put.ensures.out_after)
