-- `message_rules::good_records` meets its contract: each test decides, or leaves it to the next one (`proofs/Good.antt`). Assumes nothing.
use mathlib.Core.Path.{sym, ◌∙◌}
use borrow.Author.Rules.{rules}
use Rattle.message_rules.proofs.Good.{good_many, places_inside, good_outside, good_sizes, good_tested}
use Rattle.message_rules.proofs.good_records.Goals as goal

pub returns-then-count-gt32 : goal.returns-then-count-gt32
returns-then-count-gt32 c = good_many c.args.bytes.now c.args.places.now c.if-count-gt32.true

pub returns-then-not-all_within : goal.returns-then-not-all_within
returns-then-not-all_within c =
    good_outside c.args.bytes.now c.args.places.now (search rules) (sym c.all_within.ensures ∙ c.if-not-all_within.true)

pub some_equal-requires : goal.some_equal-requires
some_equal-requires c =
    places_inside c.args.bytes.now c.args.places.now (search rules) (search rules) (search rules) (sym c.all_within.ensures ∙ c.if-not-all_within.false)

pub returns-then-sizes : goal.returns-then-sizes
returns-then-sizes c =
    good_tested c.args.bytes.now c.args.places.now (search rules) (search rules) (search rules) (sym c.all_within.ensures ∙ c.if-not-all_within.false)
    c.sizes.ensures c.if-sizes.true c.some_equal.ensures

pub returns-else-sizes : goal.returns-else-sizes
returns-else-sizes c =
    good_sizes c.args.bytes.now c.args.places.now (search rules) (search rules) (search rules) (sym c.all_within.ensures ∙ c.if-not-all_within.false)
    c.sizes.ensures c.if-sizes.false
