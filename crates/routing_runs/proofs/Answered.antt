-- The views of a run of code calls follow the steps, so what is said of every list of calls is said of them: from each answer, what it stands
-- for. Nothing is asked of the tables. Assumes nothing.
use Prim.Native.Nat.{ℕ}
use mathlib.Core.Path.{◌≡◌, refl, sym, ap, ap₂, subst, ◌∙◌}
use mathlib.Core.Bool.{true}
use mathlib.Core.List.{List, ◌∷◌}
use Rattle.std.specs.Prelude.{Result, Ok, Err}
use Rattle.refusal.specs.declared.Refusal.{Refusal}
use Rattle.routing_table.specs.View.{View, view}
use Rattle.routing_table.specs.Good.{good}
use Rattle.routing_table.specs.declared.RoutingTable.{RoutingTable}
use Rattle.routing_calls.specs.Seen as seeing
use Rattle.routing_calls.specs.SeenFor as sees
use Rattle.routing_calls.specs.Failed as failing
use Rattle.routing_calls.specs.FailedFor as fails
use Rattle.routing_calls.specs.declared.Standing.{Standing}
use Rattle.routing_calls.specs.declared.Failure.{Failure}
use Rattle.routing_runs.specs.Step.{Call, Answer, refused, entry, replacement, counted, flagged, replaced, after_seen, after_failed, step}
use Rattle.routing_runs.specs.Story.{after, Told, story}
use Rattle.routing_runs.specs.Answered as answered
use Rattle.routing_runs.specs.Answered.{seen_says, failed_says, Answered, Answers, none, next}
use Rattle.routing_runs.proofs.Remembers.{remembers}

-- a sighting: the view to go on with, and what is said
abbrev seen_does : sees.Given → View × Answer
seen_does (sees.back says t) = (view t, refused says)
seen_does (sees.as_entry v) = (v, entry)
seen_does (sees.as_replacement v) = (v, replacement)

seen_by : (t : RoutingTable) (s : seeing.Seeing) → after_seen (view t) s ≡ seen_does (sees.given_by t s)
seen_by t (seeing.refused says) = refl
seen_by t (seeing.entry v) = refl
seen_by t (seeing.replacement v) = refl

seen_said : (t : RoutingTable) (r : Result Standing Refusal) → seen_does (sees.meaning_of r t) ≡ (view t, seen_says r)
seen_said t (Ok Standing.Entry) = refl
seen_said t (Ok Standing.Replacement) = refl
seen_said t (Err why) = refl

-- a failure
abbrev failed_does : fails.Given → View × Answer
failed_does (fails.back says t) = (view t, refused says)
failed_does (fails.after_count n v) = (v, counted n)
failed_does (fails.after_flag v) = (v, flagged)
failed_does (fails.after_exchange by v) = (v, replaced by)

failed_by : (t : RoutingTable) (s : failing.Failing) → after_failed (view t) s ≡ failed_does (fails.given_by t s)
failed_by t (failing.refused says) = refl
failed_by t (failing.counted n v) = refl
failed_by t (failing.flagged v) = refl
failed_by t (failing.replaced by v) = refl

failed_said : (t : RoutingTable) (r : Result Failure Refusal) → failed_does (fails.meaning_of r t) ≡ (view t, failed_says r)
failed_said t (Ok (Failure.Counted n)) = refl
failed_said t (Ok Failure.Flagged) = refl
failed_said t (Ok (Failure.Replaced by)) = refl
failed_said t (Err why) = refl

-- a call that is answered as its contract says is a step: its view, and what it says
pub answered_step : {t last : RoutingTable} {c : Call} {a : Answer} → Answered t c last a → step (view t) c ≡ (view last, a)
answered_step {t} (answered.seeing {c = c} last r e) =
    seen_by t (seeing.seen_of (view t) c) ∙ ap seen_does (sym e) ∙ seen_said last r
answered_step {t} (answered.failing {id = id} last r e) =
    failed_by t (failing.failed_of (view t) id) ∙ ap failed_does (sym e) ∙ failed_said last r

-- the tables and what the calls were told follow the run
pub answered_run : {own : List ℕ} {cs : List Call} {last : RoutingTable} {told : List Told} → Answers own cs last told
    → (after own cs ≡ view last) × (story own cs ≡ told)
unfolding after story
answered_run (none t fresh) = (sym fresh, refl)
answered_run {own} (next {table = t} {last = last} {c = c} {cs = cs} {a = a} {told = told} rest call) =
    let r = answered_run rest in
    let s : step (after own cs) c ≡ (view last, a) = ap (λ (v : View). step v c) r.0 ∙ answered_step call in (
      ap (λ (p : View × Answer). p.0) s,
      ap₂ (λ (p : View × Answer) (l : List Told). record { call = c; answer = p.1 } ∷ l) s r.1,
    )

-- so the table that such a run ends with passes the test behind number 0, and no call on it gives 0
pub answered_good : {own : List ℕ} {cs : List Call} {last : RoutingTable} {told : List Told} → Answers own cs last told
    → good (view last) ≡ true
answered_good {own} {cs} a = subst (λ (v : View). good v ≡ true) (answered_run a).0 (remembers own cs).passes
