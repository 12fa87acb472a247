-- `routing_table::RoutingTable::find` meets its contract: the survey says how the id stands (`proofs/Looked.antt`). Assumes nothing.
use Prim.Native.Nat.{◌<◌}
use native.Mathlib.Omega.{arith}
use mathlib.Core.Path.{sym, ap, ◌∙◌}
use borrow.Author.Rules.{rules}
use Rattle.routing_table.specs.View.{view, no_entry, no_contact}
use Rattle.routing_table.specs.Find.{entry, replacement}
use Rattle.routing_table.proofs.Firsts.{length_firsts, get_firsts}
use Rattle.routing_table.proofs.Keeps.{good_keeps}
use Rattle.routing_table.proofs.Looked.{survey_none, survey_good, survey_facts, look_bad, look_entry, look_replacement, look_absent}
use Rattle.routing_table.proofs.RoutingTable.find.Goals as goal

pub returns-in_default : goal.returns-in_default
returns-in_default c =
    sym (look_bad (view c.args.self.now) c.args.id (survey_none _ _ _ c.survey.ensures.facts c.in_default.is))

pub offset_bounds-self-at : goal.offset_bounds-self-at
offset_bounds-self-at c =
    let t = c.args.self.now in
    let g = survey_good _ _ _ c.survey.ensures.facts c.in-Some.is in
    let l = look_entry (view t) c.args.id g (survey_facts _ _ _ c.survey.ensures.facts c.in-Some.is) c.in-Some-entry.is in
    let e = length_firsts no_entry t.count t.entries in
    let few = (good_keeps (view t) g).entries_most in
    let below : c.in-Some-entry.at < 128 = omega (arith, l.0) in
    search rules

pub bounds-self-at : goal.bounds-self-at
bounds-self-at c =
    let t = c.args.self.now in
    let g = survey_good _ _ _ c.survey.ensures.facts c.in-Some.is in
    let l = look_entry (view t) c.args.id g (survey_facts _ _ _ c.survey.ensures.facts c.in-Some.is) c.in-Some-entry.is in
    let e = length_firsts no_entry t.count t.entries in
    let few = (good_keeps (view t) g).entries_most in
    omega (arith, l.0)

pub returns-in-Some-entry : goal.returns-in-Some-entry
returns-in-Some-entry c =
    let t = c.args.self.now in
    let g = survey_good _ _ _ c.survey.ensures.facts c.in-Some.is in
    let l = look_entry (view t) c.args.id g (survey_facts _ _ _ c.survey.ensures.facts c.in-Some.is) c.in-Some-entry.is in
    let e = length_firsts no_entry t.count t.entries in
    let found = l.1 ∙ ap entry (get_firsts no_entry t.count t.entries c.in-Some-entry.at (omega (arith, l.0))) in
    search rules

pub offset_bounds-self-at-in-Some-replacement : goal.offset_bounds-self-at-in-Some-replacement
offset_bounds-self-at-in-Some-replacement c =
    let t = c.args.self.now in
    let g = survey_good _ _ _ c.survey.ensures.facts c.in-Some.is in
    let l = look_replacement (view t) c.args.id g (survey_facts _ _ _ c.survey.ensures.facts c.in-Some.is) c.in_default-entry.is c.in-Some-replacement.is in
    let e = length_firsts no_contact t.waiting t.replacements in
    let few = (good_keeps (view t) g).replacements_most in
    let below : c.in-Some-replacement.at < 16 = omega (arith, l.0) in
    search rules

pub bounds-self-at-in-Some-replacement : goal.bounds-self-at-in-Some-replacement
bounds-self-at-in-Some-replacement c =
    let t = c.args.self.now in
    let g = survey_good _ _ _ c.survey.ensures.facts c.in-Some.is in
    let l = look_replacement (view t) c.args.id g (survey_facts _ _ _ c.survey.ensures.facts c.in-Some.is) c.in_default-entry.is c.in-Some-replacement.is in
    let e = length_firsts no_contact t.waiting t.replacements in
    let few = (good_keeps (view t) g).replacements_most in
    omega (arith, l.0)

pub returns-in-Some-replacement : goal.returns-in-Some-replacement
returns-in-Some-replacement c =
    let t = c.args.self.now in
    let g = survey_good _ _ _ c.survey.ensures.facts c.in-Some.is in
    let l = look_replacement (view t) c.args.id g (survey_facts _ _ _ c.survey.ensures.facts c.in-Some.is) c.in_default-entry.is c.in-Some-replacement.is in
    let e = length_firsts no_contact t.waiting t.replacements in
    let found = l.1 ∙ ap replacement (get_firsts no_contact t.waiting t.replacements c.in-Some-replacement.at (omega (arith, l.0))) in
    search rules

pub returns : goal.returns
returns c =
    let t = c.args.self.now in
    let g = survey_good _ _ _ c.survey.ensures.facts c.in-Some.is in
    let none = look_absent (view t) c.args.id g (survey_facts _ _ _ c.survey.ensures.facts c.in-Some.is) c.in_default-entry.is c.in_default-replacement.is in
    search rules
