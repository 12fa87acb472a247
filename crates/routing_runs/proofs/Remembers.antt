-- What a routing table remembers, for every own id and every list of sightings and failures of any length, with any input, from a fresh
-- table: `Remembers` of `specs/Remembers.antt`. Assumes nothing.
use Prim.Native.Nat.{ℕ}
use mathlib.Core.Path.{◌≡◌, refl, subst, ◌∙◌}
use mathlib.Core.Bool.{true}
use mathlib.Core.List.Memᴰ.{not-nil}
use mathlib.Core.List.{List, [], ◌∷◌}
use Rattle.octets.specs.Equal.{holds, all_different}
use Rattle.routing_table.specs.View.{fresh_of}
use Rattle.routing_table.specs.Good.{good}
use Rattle.routing_table.specs.Rules.{Rules}
use Rattle.routing_table.proofs.Keeps.{good_rules}
use Rattle.routing_runs.specs.Step.{Call, step}
use Rattle.routing_runs.specs.Story.{after, story}
use Rattle.routing_runs.specs.Remembers.{Remembers}
use Rattle.routing_runs.proofs.Done.{Done}
use Rattle.routing_runs.proofs.Steps.{does}
use Rattle.routing_runs.proofs.Kept.{kept}
use Rattle.routing_runs.proofs.Refusals.{not_zero}
use Rattle.routing_runs.proofs.Ordered.{Ordered, ordered_pair}
use Rattle.routing_runs.proofs.Memory.{Memory, memory_kept}
use Rattle.routing_runs.proofs.Leaving.{entry_leaves_lem, replacement_leaves_lem, refused_done, owner_stays}

-- a fresh table keeps the rules: the test computes
good_fresh : (own : List ℕ) → good (fresh_of own) ≡ true
unfolding good all_different holds
good_fresh own = refl

module _ (own : List ℕ) where
  -- at every point the rules hold,
  rules_after : (calls : List Call) → Rules (after own calls)
  unfolding after
  rules_after [] = (good_rules (fresh_of own)).0 (good_fresh own)
  rules_after (c ∷ earlier) = kept (rules_after earlier) (does (after own earlier) c (rules_after earlier))

  -- the next call does one of these,
  done_after : (calls : List Call) (c : Call) → Done (after own calls) c (step (after own calls) c).0 (step (after own calls) c).1
  done_after calls c = does (after own calls) c (rules_after calls)

  -- our own id is the first one,
  owner_after : (calls : List Call) → (after own calls).own ≡ own
  unfolding after
  owner_after [] = refl
  owner_after (c ∷ earlier) = owner_stays (done_after earlier c) ∙ owner_after earlier

  -- and the story tells of entries and replacements
  memory_after : (calls : List Call) → Memory (after own calls) (story own calls)
  unfolding after story
  memory_after [] = record {
    entries = λ e m. absurd (not-nil m);
    replacements = record { fields = λ c m. absurd (not-nil m); ordered = tt };
  }
  memory_after (c ∷ earlier) =
      let rules = rules_after earlier in
      memory_kept rules (memory_after earlier) (done_after earlier c)

  -- the whole claim
  pub remembers : (calls : List Call) → Remembers own calls
  remembers calls =
      let v = after own calls in
      let memory = memory_after calls in
      record {
        rules = rules_after calls;
        passes = (good_rules v).1 (rules_after calls);
        no_zero = λ c r e. not_zero (refused_done r (done_after calls c) e).1;
        owner = owner_after calls;
        entry_fields = λ e m. (memory.entries e m).fields;
        replacement_fields = memory.replacements.fields;
        in_order = λ front middle back a b e.
            ordered_pair (story own calls) front middle back a b (subst (Ordered (story own calls)) e memory.replacements.ordered);
        failures = λ e m. (memory.entries e m).failures;
        entry_leaves = λ c e m gone. entry_leaves_lem e (done_after calls c) m gone;
        replacement_leaves = λ c out m gone. replacement_leaves_lem out (done_after calls c) m gone;
        refuses = λ c r e. (refused_done r (done_after calls c) e).0;
        reasons = λ c r e. (refused_done r (done_after calls c) e).1;
      }
