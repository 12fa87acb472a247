-- Demand 3, for every index, owner and list of calls. Assumes nothing.
use Prim.Native.Nat.{ℕ, suc, ◌+◌}
use native.Mathlib.Nat.{lt_irrefl}
use native.Mathlib.Omega.{arith}
use mathlib.Core.Path.{◌≡◌, refl, sym, ap, subst, subst₂, ◌∙◌}
use mathlib.Core.Logic.{inl, inr, ⊎_elim}
use mathlib.Core.List.Memᴰ
use mathlib.Core.List.Memᴰ.{head as here}
use mathlib.Core.List.Memᴰ.{tail as there}
use mathlib.Core.List.{List, [], ◌∷◌}
use lib.ListN.{length}
use Rattle.nearest.specs.Sorted.{◌among◌, SortedFrom, distances}
use Rattle.nearest.specs.Nearest.{Nearest, Within}
use Rattle.nearest.proofs.Sorted.{sorted_least}
use Rattle.nearest.proofs.Nearest.{nearest_distances}
use Rattle.runs.specs.Setting.{Setting, Laws}
use Rattle.runs.specs.Views.{View, Call, store, remove, reload, Answer, reloaded, Good, Gives}
use Rattle.runs.specs.Done.{Index}
use Rattle.runs.specs.Runs.{Part, answers, NoReload, Stretch, stores, evictions, removals, count, Presented, Candidate, Includes, SameSet, SameKeys}
use Rattle.runs.specs.Demand3.{Different, InOrder, Demand3}
use Rattle.runs.proofs.Views.{within_radius}
use Rattle.runs.proofs.Steps.{number_step, accepts_step, evicts_step, removes_step, leaves_step, reloads_step, refuses_step, good_step}
use Rattle.runs.proofs.Runs.{owner_run, counts_run, nearest_run, good_part, done_point}

-- keys strictly nearest first are all different
pub sorted_different : {K : Type 0} (dist : K → ℕ) (b : ℕ) (l : List K) → SortedFrom dist b l → Different l
sorted_different dist b [] s = tt
sorted_different dist b (k ∷ ks) s =
    (λ m. lt_irrefl (dist k) (sorted_least dist (suc (dist k)) ks s.1 (Memᴰ.map dist m)), sorted_different dist (suc (dist k)) ks s.1)

module _ {S : Setting} (L : Laws S) where
  open S use {Key, Owner, Text, ValidOwner, ValidKey, dist, limit}

  -- the rules say that the keys are in order
  pub good_order : (v : View S) → Good S v → InOrder S v
  good_order v good = record {
    most = good.most;
    different = sorted_different (dist v.owner) 0 v.keys good.sorted;
    sorted = good.sorted;
    within = within_radius L v good;
  }

  -- what is offered is a key
  pub presented_valid : (o : Owner) (cs : List (Call S)) (k : Key) → Presented S o cs k → ValidKey o k
  presented_valid o [] k f = absurd f
  presented_valid o (store raw content ∷ cs) k f = ⊎_elim (λ u. L.key_in_valid o raw k u.0.presented) (presented_valid o cs k) f
  presented_valid o (remove raw ∷ cs) k f = ⊎_elim absurd (presented_valid o cs k) f
  presented_valid o (reload t ∷ cs) k f = ⊎_elim absurd (presented_valid o cs k) f

  -- the same keys are offered: then what is held or offered is at the same distances
  presented_within : (v : View S) (cs cs' : List (Call S)) → Good S v
      → Includes S v.owner (Presented S v.owner cs') (Presented S v.owner cs)
      → Within (dist v.owner) (Candidate S v cs) (Candidate S v cs')
  presented_within v cs cs' good has k (inl m) = (k, inl m, refl)
  presented_within v cs cs' good has k (inr f) =
      let t = has k f in
      let p = presented_valid v.owner cs' t.0 t.1 in
      let q = presented_valid v.owner cs k f in
      (t.0, inr t.1, (L.same_distance v.owner t.0 k good.valid_owner p q).0 t.2)

  -- equal distances in the same places are the same keys in the same places
  same_keys : (o : Owner) (js ks : List Key) → ValidOwner o → ((k : Key) → k among js → ValidKey o k)
      → ((k : Key) → k among ks → ValidKey o k) → distances (dist o) js ≡ distances (dist o) ks → SameKeys S o js ks
  same_keys o [] [] valid p q e = tt
  same_keys o [] (k ∷ ks) valid p q e = let z : ◌≡◌ {A = ℕ} 0 1 = cc in omega arith
  same_keys o (j ∷ js) [] valid p q e = let z : ◌≡◌ {A = ℕ} 0 1 = cc in omega arith
  same_keys o (j ∷ js) (k ∷ ks) valid p q e = (
    (L.same_distance o j k valid (p j (here refl)) (q k (here refl))).1 (cc),
    same_keys o js ks valid (λ i m. p i (there m)) (λ i m. q i (there m)) (cc),
  )

  module _ (index : Index S) {o : Owner} {calls cs : List (Call S)} {v w : View S} {told : List (Answer S)} (good : Good S v)
      (part : Part S index.step o calls v cs w told) where
    -- over a part with no accepted reload the owner stays
    owner_part : NoReload S told → w.owner ≡ v.owner
    owner_part n =
        subst (λ (x : View S). x.owner ≡ v.owner) (sym part.ends)
        (owner_run L index v cs good (subst (λ (l : List (Answer S)). NoReload S l) part.answered n))

    -- and the count holds
    counts_part : NoReload S told
        → length v.keys + count S (stores S) told ≡ length w.keys + count S (evictions S) told + count S (removals S) told
    counts_part n =
        subst₂ (λ (x : View S) (l : List (Answer S)).
        length v.keys + count S (stores S) l ≡ length x.keys + count S (evictions S) l + count S (removals S) l)
        (sym part.ends) (sym part.answered)
        (counts_run L index v cs good (subst (λ (l : List (Answer S)). NoReload S l) part.answered n))

    -- a stretch ends at the nearest
    nearest_part : Stretch S told
        → Nearest (dist v.owner) (limit v.owner) (Candidate S v cs) w.keys
    nearest_part s =
        subst (λ (x : View S). Nearest (dist v.owner) (limit v.owner) (Candidate S v cs) x.keys) (sym part.ends)
        (nearest_run L index v cs good (subst (λ (l : List (Answer S)). Stretch S l) part.answered s))

  -- after a reload that was accepted, the owner is the one that its text gave
  reloaded_part : (index : Index S) {o : Owner} {calls cs : List (Call S)} {v w u : View S} {t : Text} {told : List (Answer S)} → Good S v
      → Part S index.step o calls v (reload t ∷ cs) w (reloaded ∷ told) → NoReload S told → Gives S t u → w.owner ≡ u.owner
  reloaded_part index {cs} {v} {u} {t} {told} good part n gives =
      let done = index.done v (reload t) good in
      let e : told ≡ answers S index.step (index.step v (reload t)).0 cs = cc part.answered in
      ap (λ (x : View S). x.owner) part.ends
      ∙ owner_run L index (index.step v (reload t)).0 cs (good_step L good done) (subst (λ (l : List (Answer S)). NoReload S l) e n)
      ∙ ap (λ (x : View S). x.owner) ((reloads_step L good done u).0 gives).1

  -- two stretches that start alike end alike
  alike_parts : (index other : Index S) {o o' : Owner} {calls calls' cs cs' : List (Call S)} {v w w' : View S}
      {told told' : List (Answer S)} → Good S v → Part S index.step o calls v cs w told → Stretch S told → Part S other.step o' calls' v cs' w' told' → Stretch S told'
      → SameSet S v.owner (Presented S v.owner cs) (Presented S v.owner cs') → SameKeys S v.owner w.keys w'.keys
  alike_parts index other {cs} {cs'} {v} {w} {w'} good part s part' s' set =
      let near = nearest_part index good part s in
      let near' = nearest_part other good part' s' in
      same_keys v.owner w.keys w'.keys good.valid_owner
      (λ k m. ⊎_elim (good.valid_keys k) (presented_valid v.owner cs k) (near.chosen k m))
      (λ k m. ⊎_elim (good.valid_keys k) (presented_valid v.owner cs' k) (near'.chosen k m))
      (nearest_distances (dist v.owner) (limit v.owner) (Candidate S v cs) (Candidate S v cs')
      w.keys w'.keys (presented_within v cs cs' good set.1) (presented_within v cs' cs good set.0) near near')

  -- demand 3
  pub demand3 : (index : Index S) (o : Owner) → ValidOwner o → (calls : List (Call S)) → Demand3 S index.step o calls
  demand3 index o valid calls = record {
    in_order = λ part. good_order _ (good_part L index valid part);
    no_zero = λ point. let good = good_part L index valid point in number_step L good (done_point L index good point);
    owner_fresh = λ part n. owner_part index (good_part L index valid part) part n;
    owner_reloaded = λ part n gives. reloaded_part index (good_part L index valid part) part n gives;
    nearest = λ part s. nearest_part index (good_part L index valid part) part s;
    alike = λ part s other o' part' s' set. alike_parts index other (good_part L index valid part) part s part' s' set;
    accepts = λ point ad new. let good = good_part L index valid point in accepts_step L good (done_point L index good point) ad new;
    counts = λ part n. counts_part index (good_part L index valid part) part n;
    evicts = λ point j. let good = good_part L index valid point in evicts_step L good (done_point L index good point) j;
    removes = λ point. let good = good_part L index valid point in removes_step L good (done_point L index good point);
    leaves = λ point accepted e. leaves_step L (done_point L index (good_part L index valid point) point) accepted e;
    reloads = λ point u. let good = good_part L index valid point in reloads_step L good (done_point L index good point) u;
    refuses = λ point. refuses_step L (done_point L index (good_part L index valid point) point);
  }
