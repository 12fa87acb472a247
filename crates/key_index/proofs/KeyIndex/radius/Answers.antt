-- `KeyIndex::radius` meets its contract: a good index has no more keys than the limit. Assumes nothing.
use mathlib.Core.Path.{sym, ap, ◌∙◌}
use Rattle.refusal.specs.Outcome.{given}
use Rattle.key_index.specs.View.{key_limit, view}
use Rattle.key_index.proofs.Answers.{radius_given}
use Rattle.key_index.proofs.Rules.{good_count}
use Rattle.key_index.proofs.KeyIndex.radius.Goals as goal

pub returns-then-is_good : goal.returns-then-is_good
returns-then-is_good c =
    let index = c.args.self.now in
    let g = sym c.is_good.ensures ∙ c.if-is_good.true in
    ap given (c.reach.ensures (good_count key_limit index.node index.cap index.keys index.count g)) ∙ radius_given key_limit (view index) g
