-- `routing_table::surveys::surveyed` meets its contract: the first rule that fails ends it (`proofs/Kept.antt`). Assumes nothing.
use Prim.Native.Nat.{ℕ, ◌+◌}
use native.Mathlib.Omega.{arith}
use mathlib.Core.Path.{◌≡◌, refl, sym, ap, ◌∙◌}
use lib.ListN.{length, take}
use lib.Seq.{length-take-le}
use Rattle.octets.specs.Equal.{same_bytes, all_different}
use Rattle.routing_table.specs.View.{View, logs_of}
use Rattle.routing_table.proofs.Kept.{not_sound, some_same, by_logs}
use borrow.Author.Rules.{rules}
use Rattle.routing_table.proofs.surveys.surveyed.Goals as goal
use Rattle.routing_table.proofs.surveys.surveyed.Goals.{After-ids_of-all, After-logs_of-each}

-- the ids and the log distances, as many as the table has
long_ids : (c : After-ids_of-all) → length (take (1 + length c.args.entries.now + length c.args.replacements.now) c.ids_of-all.result) ≡ 1 + length c.args.entries.now + length c.args.replacements.now
long_ids c =
    let long : length c.ids_of-all.result ≡ 145 = search rules in
    length-take-le (1 + length c.args.entries.now + length c.args.replacements.now) c.ids_of-all.result (search rules)

long_logs : (c : After-logs_of-each) → length (take (1 + length c.args.entries.now + length c.args.replacements.now) c.logs_of-each.result) ≡ 1 + length c.args.entries.now + length c.args.replacements.now
long_logs c =
    let long : length c.logs_of-each.result ≡ 145 = search rules in
    length-take-le (1 + length c.args.entries.now + length c.args.replacements.now) c.logs_of-each.result (search rules)

pub returns-then-not-sound : goal.returns-then-not-sound
returns-then-not-sound c =
    let a = c.args in
    let v : View = record { own = a.own; entries = a.entries.now; replacements = a.replacements.now } in
    sym (not_sound v a.id c.requires.0 c.requires.1 (sym c.sound.ensures ∙ c.if-not-sound.true))

pub returns-then-not-all_different : goal.returns-then-not-all_different
returns-then-not-all_different c =
    let a = c.args in
    let v : View = record { own = a.own; entries = a.entries.now; replacements = a.replacements.now } in
    let one = ap (all_different same_bytes) c.ids_of-all.ensures in
    sym (some_same v a.id c.requires.0 c.requires.1 (sym c.sound.ensures ∙ c.if-not-sound.false) (sym one ∙ sym c.all_different.ensures ∙ c.if-not-all_different.true))

pub logs_of-each-requires : goal.logs_of-each-requires
logs_of-each-requires c =
    let long = long_ids (goal.at.logs_of-each-requires c).After-ids_of-all in
    omega arith

pub slice_bounds-fitted-end : goal.slice_bounds-fitted-end
slice_bounds-fitted-end c = sym (long_logs (goal.at.slice_bounds-fitted-end c).After-logs_of-each)

pub fitted-requires : goal.fitted-requires
fitted-requires c =
    let ids = long_ids (goal.at.fitted-requires c).After-ids_of-all in
    let logs = long_logs (goal.at.fitted-requires c).After-logs_of-each in
    (omega arith, omega arith, omega arith)

pub returns : goal.returns
returns c =
    let a = c.args in
    let v : View = record { own = a.own; entries = a.entries.now; replacements = a.replacements.now } in
    let ids = c.ids_of-all.ensures in
    let one = ap (all_different same_bytes) ids in
    let logs = ap (λ (n : ℕ). take n c.logs_of-each.result) (sym (long_ids (goal.at.returns c).After-ids_of-all)) ∙ c.logs_of-each.ensures ∙ ap (logs_of a.own) ids in
    c.fitted.ensures v refl ids logs refl
    ∙ sym (by_logs v a.id c.requires.0 c.requires.1 (sym c.sound.ensures ∙ c.if-not-sound.false) (sym one ∙ sym c.all_different.ensures ∙ c.if-not-all_different.false))
