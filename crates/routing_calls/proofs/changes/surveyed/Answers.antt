-- `routing_calls::changes::surveyed` meets its contract: what the survey tells (`proofs/Told.antt`). Assumes nothing.
use mathlib.Core.Path.{refl}
use Rattle.routing_table.proofs.Looked.{survey_none}
use Rattle.routing_calls.proofs.Told.{told_facts}
use Rattle.routing_calls.proofs.changes.surveyed.Goals as goal

pub returns-in-Some : goal.returns-in-Some
returns-in-Some c = told_facts _ _ _ c.survey.ensures.arrays c.survey.ensures.facts c.in-Some.is

pub returns-in-None : goal.returns-in-None
returns-in-None c = (refl, survey_none _ _ _ c.survey.ensures.facts c.in-None.is)
