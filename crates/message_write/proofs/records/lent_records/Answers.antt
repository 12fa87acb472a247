-- `message_write::records::lent_records` meets its contract: each return is a law of `proofs/Loans.antt`, from the tests that led there. Assumes nothing.
use mathlib.Core.Path.{refl, sym, ◌∙◌}
use Rattle.message_write.proofs.Loans.{lent_layout, lent_many, lent_bad, lent_good}
use Rattle.message_write.proofs.records.lent_records.Goals as goal

pub returns-then-not-all_within : goal.returns-then-not-all_within
returns-then-not-all_within c = lent_layout _ _ _ (sym c.all_within.ensures ∙ c.if-not-all_within.true)

pub returns-then-count-gt32 : goal.returns-then-count-gt32
returns-then-count-gt32 c = lent_many _ _ _ (sym c.all_within.ensures ∙ c.if-not-all_within.false) c.if-count-gt32.true

pub returns-then-not-good_records : goal.returns-then-not-good_records
returns-then-not-good_records c =
    lent_bad _ _ _ (sym c.all_within.ensures ∙ c.if-not-all_within.false) c.if-count-gt32.false _ refl c.copied.ensures c.copied-2.ensures
    (sym c.good_records.ensures ∙ c.if-not-good_records.true)

pub returns : goal.returns
returns c =
    lent_good _ _ _ (sym c.all_within.ensures ∙ c.if-not-all_within.false) c.if-count-gt32.false _ refl c.copied.ensures c.copied-2.ensures
    (sym c.good_records.ensures ∙ c.if-not-good_records.false)
