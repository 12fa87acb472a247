-- `KeyIndex::holds` meets its contract: a place is found exactly where the key is held. Assumes nothing.
use mathlib.Core.Path.{sym, ap, ◌∙◌}
use Rattle.refusal.specs.Outcome.{given}
use Rattle.refusal.proofs.Outcomes.{was_given}
use Rattle.key_index.specs.View.{key_limit, view}
use Rattle.std.specs.Option.{is_some}
use Rattle.key_index.proofs.Places.{place_held}
use Rattle.key_index.proofs.Answers.{holds_given}
use Rattle.key_index.proofs.KeyIndex.holds.Goals as goal

pub returns : goal.returns
returns c =
    let index = c.args.self.now in
    let g = sym c.is_good.ensures ∙ c.if-not-is_good.false in
    ap given (c.is_some.ensures ∙ ap is_some c.find.ensures ∙ place_held c.in_ok-key.key (view index).keys)
    ∙ holds_given key_limit (view index) c.args.bytes.now g (was_given _ c.key.ensures c.in_ok-key.was)
