-- `loading::reload` meets its contract: a bad index is kept, and so is a good one where `load` names a bad line. Assumes nothing.
use mathlib.Core.Path.{sym, ◌∙◌}
use Rattle.key_index.specs.View.{key_limit}
use Rattle.snapshot.proofs.Turns.{reload_bad, reload_good}
use Rattle.snapshot.proofs.loading.reload.Goals as goal

pub returns-then-not-is_good : goal.returns-then-not-is_good
returns-then-not-is_good c = reload_bad key_limit c.args.index.now c.args.text.now (sym c.is_good.ensures ∙ c.if-not-is_good.true)

pub returns-in-Ok : goal.returns-in-Ok
returns-in-Ok c = reload_good key_limit c.args.index.now c.args.text.now (sym c.is_good.ensures ∙ c.if-not-is_good.false) c.in-Ok.ensures

pub returns-in-Err : goal.returns-in-Err
returns-in-Err c = reload_good key_limit c.args.index.now c.args.text.now (sym c.is_good.ensures ∙ c.if-not-is_good.false) c.in-Err.ensures
