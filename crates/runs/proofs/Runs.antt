-- What holds over any number of calls that an index runs, from what holds of one. Assumes nothing.
use Prim.Native.Nat.{◌+◌}
use native.Mathlib.Omega.{arith}
use mathlib.Core.Path.{◌≡◌, refl, sym, subst, subst₂, ◌∙◌}
use mathlib.Core.Logic.{◌⊎◌, inl, inr, ⊎_elim}
use mathlib.Core.List.{List, [], ◌∷◌}
use lib.ListN.{length}
use Rattle.nearest.specs.Sorted.{◌among◌}
use Rattle.nearest.specs.Nearest.{Nearest}
use Rattle.nearest.proofs.Nearest.{offers_nearest, nearest_iff}
use Rattle.runs.specs.Setting.{Setting, Laws}
use Rattle.runs.specs.Views.{View, Call, Answer, refused, stored, evicted, removed, reloaded, fresh, Good}
use Rattle.runs.specs.Done.{Done, Index}
use Rattle.runs.specs.Runs.{Part, Point, run, answers, NoReload, Stretch, stores, evictions, removals, count, Candidate}
use Rattle.runs.proofs.Views.{good_fresh}
use Rattle.runs.proofs.Steps.{good_step, owner_step, counts_step}
use Rattle.runs.proofs.Stretches.{Folded, folded_none, folded_next, folded_step}

module _ {S : Setting} (L : Laws S) where
  open S use {Owner, ValidOwner, dist, limit}

  no_reload_rest : (a : Answer S) (told : List (Answer S)) → NoReload S (a ∷ told) → NoReload S told
  no_reload_rest (refused r) told n = n
  no_reload_rest stored told n = n
  no_reload_rest (evicted k) told n = n
  no_reload_rest removed told n = n
  no_reload_rest reloaded told n = absurd n

  stretch_rest : (a : Answer S) (told : List (Answer S)) → Stretch S (a ∷ told) → Stretch S told
  stretch_rest (refused r) told n = n
  stretch_rest stored told n = n
  stretch_rest (evicted k) told n = n
  stretch_rest removed told n = absurd n
  stretch_rest reloaded told n = absurd n

  stretch_first : (a : Answer S) (told : List (Answer S)) → Stretch S (a ∷ told) → NoReload S (a ∷ [])
  stretch_first (refused r) told n = tt
  stretch_first stored told n = tt
  stretch_first (evicted k) told n = tt
  stretch_first removed told n = tt
  stretch_first reloaded told n = n

  module _ (index : Index S) where
    -- the rules are kept
    pub good_run : (v : View S) (cs : List (Call S)) → Good S v → Good S (run S index.step v cs)
    good_run v [] good = good
    good_run v (c ∷ cs) good = good_run (index.step v c).0 cs (good_step L good (index.done v c good))

    -- the owner stays where no reload is accepted
    pub owner_run : (v : View S) (cs : List (Call S)) → Good S v → NoReload S (answers S index.step v cs)
        → (run S index.step v cs).owner ≡ v.owner
    owner_run v [] good n = refl
    owner_run v (c ∷ cs) good n =
        let done = index.done v c good in
        let told = answers S index.step (index.step v c).0 cs in
        owner_run (index.step v c).0 cs (good_step L good done) (no_reload_rest (index.step v c).1 told n) ∙ owner_step L told done n

    -- the count
    pub counts_run : (v : View S) (cs : List (Call S)) → Good S v → NoReload S (answers S index.step v cs)
        → length v.keys + count S (stores S) (answers S index.step v cs)
        ≡ length (run S index.step v cs).keys
        + count S (evictions S) (answers S index.step v cs)
        + count S (removals S) (answers S index.step v cs)
    counts_run v [] good n = omega arith
    counts_run v (c ∷ cs) good n =
        let done = index.done v c good in
        let told = answers S index.step (index.step v c).0 cs in
        let rest = counts_run (index.step v c).0 cs (good_step L good done) (no_reload_rest (index.step v c).1 told n) in
        omega (arith, counts_step L told good done n, rest)

    -- a stretch comes to keys offered
    pub folded_run : (v : View S) (cs : List (Call S)) → Good S v → Stretch S (answers S index.step v cs)
        → Folded L v.owner cs v.keys (run S index.step v cs).keys
    folded_run v [] good s = folded_none L v.owner [] v.keys (λ k f. f)
    folded_run v (c ∷ cs) good s =
        let w = (index.step v c).0 in
        let a = (index.step v c).1 in
        let done = index.done v c good in
        let told = answers S index.step w cs in
        folded_next L v.owner c cs v.keys w.keys (run S index.step w cs).keys (folded_step L told good done s)
        (subst (λ (o : Owner). Folded L o cs w.keys (run S index.step w cs).keys) (owner_step L [] done (stretch_first a told s))
        (folded_run w cs (good_step L good done) (stretch_rest a told s)))

    -- so it ends at the nearest of the keys held and those offered
    pub nearest_run : (v : View S) (cs : List (Call S)) → Good S v → Stretch S (answers S index.step v cs)
        → Nearest (dist v.owner) (limit v.owner) (Candidate S v cs) (run S index.step v cs).keys
    nearest_run v cs good s =
        let f = folded_run v cs good s in
        rw f.folds
        (nearest_iff (dist v.owner) (limit v.owner) (λ k. (k among v.keys) ⊎ (k among f.offers)) (Candidate S v cs) _
        (λ k. (⊎_elim inl (λ m. inr ((f.which k).1 m)), ⊎_elim inl (λ m. inr ((f.which k).0 m))))
        (offers_nearest (dist v.owner) (limit v.owner) v.keys f.offers good.sorted good.most))

    -- in a run from a fresh index every view keeps the rules
    pub good_part : {o : Owner} {calls cs : List (Call S)} {v w : View S} {told : List (Answer S)} → ValidOwner o
        → Part S index.step o calls v cs w told → Good S v
    good_part {o} valid part =
        subst (λ (x : View S). Good S x) (sym part.begins) (good_run (fresh S o) part.before (good_fresh L o valid))

    -- and every call does what it should
    pub done_point : {o : Owner} {calls : List (Call S)} {v w : View S} {c : Call S} {a : Answer S} → Good S v
        → Point S index.step o calls v c w a → Done S v c w a
    done_point {v} {c} {a} good point =
        let e : a ≡ (index.step v c).1 = cc point.answered in
        subst₂ (λ (x : View S) (b : Answer S). Done S v c x b) (sym point.ends) (sym e) (index.done v c good)
