-- Calls that name no newer block than n take in no key of a block over n, and come to the same without the stores of such keys. Assumes
-- nothing.
use Prim.Native.Nat.{ℕ, ◌≤◌, ◌<◌}
use native.Mathlib.Omega.{arith}
use mathlib.Core.Path.{◌≡◌, refl, sym, ap, subst, ◌∙◌}
use mathlib.Core.Bool.{Bool, true, false, cond}
use mathlib.Core.Logic.{⊎_elim}
use mathlib.Core.List.{List, [], ◌∷◌, append-nil}
use lib.Dec.{leb}
use borrow.Author.Tests.{leb-false}
use Rattle.content_key.specs.Key.{block_of}
use Rattle.nearest.specs.Sorted.{◌among◌}
use Rattle.nearest.specs.Insert.{insert}
use Rattle.nearest.proofs.Lists.{middle_among}
use Rattle.nearest.proofs.Insert.{insert_only}
use Rattle.runs.specs.Views.{View, Call, store, remove, reload, Answer, Good}
use Rattle.runs.specs.Done.{Admitted, Done, refusing, storing, evicting, removing, reloading}
use Rattle.runs.specs.Runs.{run, answers, Accepted, NoReload}
use Rattle.runs.proofs.Steps.{good_step}
use Rattle.runs.proofs.Runs.{good_part, done_point}
use Rattle.key_index.specs.Good.{away_from}
use Rattle.demands.specs.Box.{Owner, ValidOwner, Raw, Brought}
use Rattle.demands.specs.Setting.{box}
use Rattle.demands.specs.Step.{step}
use Rattle.demands.specs.Newest.{NewestIn, without, NoFuture}
use Rattle.demands.proofs.Laws.{laws}
use Rattle.demands.proofs.Terms.{admitted_iff}
use Rattle.demands.proofs.Steps.{does, index}

-- an admitted key has a number of at most the newest that its call names
admitted_known : {o : Owner} {raw : Raw} {brought : Brought} {k : List ℕ} → Admitted box o raw brought k → block_of k ≤ brought.newest
admitted_known {o} {raw} {brought} {k} a = ((admitted_iff o raw brought k).0 a).1

-- and the key is its call's bytes
key_known : {o : Owner} {raw : Raw} {brought : Brought} {k : List ℕ} → Admitted box o raw brought k → block_of raw.bytes ≤ brought.newest
key_known {o} {raw} {brought} {k} a = rw ((admitted_iff o raw brought k).0 a).0.bytes (admitted_known a)

-- an accepted store takes in a key that is admitted
known_step : {v w : View box} {raw : Raw} {brought : Brought} {a : Answer box} → Done box v (store raw brought) w a → Accepted box a
    → block_of raw.bytes ≤ brought.newest
known_step (refusing why) accepted = absurd accepted
known_step (storing taken room) accepted = key_known taken.admitted
known_step (evicting front far taken full e) accepted = key_known taken.admitted

-- a store of a key beyond the newest that it names leaves the view as it was
future_step : {v w : View box} {raw : Raw} {brought : Brought} {a : Answer box} → Done box v (store raw brought) w a
    → brought.newest < block_of raw.bytes → w ≡ v
future_step (refusing why) over = refl
future_step (storing taken room) over = absurd (omega (arith, key_known taken.admitted))
future_step (evicting front far taken full e) over = absurd (omega (arith, key_known taken.admitted))

module _ (n : ℕ) where
  newest_rest : (c : Call box) (cs : List (Call box)) → NewestIn n (c ∷ cs) → NewestIn n cs
  newest_rest (store raw brought) cs b = b.1
  newest_rest (remove raw) cs b = b
  newest_rest (reload text) cs b = b

  module _ (k : List ℕ) (over : n < block_of k) where
    -- the key of a store is not k, so k was among the others
    others : {o : Owner} {raw : Raw} {brought : Brought} {j : List ℕ} (l : List (List ℕ)) → Admitted box o raw brought j → brought.newest ≤ n
        → k among insert (away_from o.node) j l → k among l
    others {o} {j = j} l a b m =
        ⊎_elim (λ e. absurd (omega (arith, admitted_known a, ap (λ (x : List ℕ). block_of x) e))) (λ i. i) (insert_only (away_from o.node) j l m)

    -- one call, other than an accepted reload, takes no such key in
    held_step : {v w : View box} {c : Call box} {a : Answer box} (cs : List (Call box)) (told : List (Answer box)) → Done box v c w a
        → NewestIn n (c ∷ cs) → NoReload box (a ∷ told) → NoReload box told × (k among w.keys → k among v.keys)
    held_step cs told (refusing why) b r = (r, λ m. m)
    held_step {v} cs told (storing taken room) b r = (r, others v.keys taken.admitted b.0)
    held_step {v} cs told (evicting front far taken full e) b r = (
      r,
      λ m. rw e (middle_among front far [] (rw (append-nil front) (others front taken.admitted b.0 m))),
    )
    held_step cs told (removing {k = j} front back p e) b r = (r, λ m. rw e (middle_among front j back m))
    held_step cs told (reloading gives) b r = absurd r

    -- nor do many
    held_run : (v : View box) (cs : List (Call box)) → Good box v → NewestIn n cs → NoReload box (answers box step v cs)
        → k among (run box step v cs).keys → k among v.keys
    held_run v [] good b r m = m
    held_run v (c ∷ cs) good b r m =
        let done = does v c good in
        let h = held_step cs (answers box step (step v c).0 cs) done b r in
        h.1 (held_run (step v c).0 cs (good_step laws good done) (newest_rest c cs b) h.0 m)

  -- fewer calls come to this view and these answers
  abbrev Comes : View box → List (Call box) → View box → List (Answer box) → Type 0
  Comes v left w told = (run box step v left ≡ w) × (answers box step v left ≡ told)

  comes_next : (v : View box) (c : Call box) (left : List (Call box)) {w : View box} {told : List (Answer box)} → Comes (step v c).0 left w told
      → Comes v (c ∷ left) w ((step v c).1 ∷ told)
  comes_next v c left r = (r.0, ap (λ (l : List (Answer box)). (step v c).1 ∷ l) r.1)

  -- without the stores beyond n a run comes to the same
  abbrev Same : View box → List (Call box) → Type 0
  Same v cs = Comes v (without n cs cs) (run box step v cs) (without n cs (answers box step v cs))

  same_store : (v : View box) (raw : Raw) (brought : Brought) (cs : List (Call box)) → Good box v → brought.newest ≤ n
      → ((w : View box) → Good box w → Same w cs) → Same v (store raw brought ∷ cs)
  same_store v raw brought cs good most rest = go (leb (block_of raw.bytes) n) refl
    where
      c : Call box
      c = store raw brought

      go : (t : Bool) → leb (block_of raw.bytes) n ≡ t
          → Comes v (cond t (c ∷ without n cs cs) (without n cs cs)) (run box step (step v c).0 cs)
          (cond t ((step v c).1 ∷ without n cs (answers box step (step v c).0 cs)) (without n cs (answers box step (step v c).0 cs)))
      go true e = comes_next v c (without n cs cs) (rest (step v c).0 (good_step laws good (does v c good)))
      go false e =
          let over = leb-false (block_of raw.bytes) n e in
          subst (λ (x : View box). Comes v (without n cs cs) (run box step x cs) (without n cs (answers box step x cs)))
          (sym (future_step (does v c good) (omega arith))) (rest v good)

  same_run : (v : View box) (cs : List (Call box)) → Good box v → NewestIn n cs → Same v cs
  same_run v [] good b = (refl, refl)
  same_run v (store raw brought ∷ cs) good b = same_store v raw brought cs good b.0 (λ w g. same_run w cs g b.1)
  same_run v (remove raw ∷ cs) good b =
      comes_next v (remove raw) (without n cs cs)
      (same_run (step v (remove raw)).0 cs (good_step laws good (does v (remove raw) good)) b)
  same_run v (reload text ∷ cs) good b =
      comes_next v (reload text) (without n cs cs)
      (same_run (step v (reload text)).0 cs (good_step laws good (does v (reload text) good)) b)

pub no_future : (o : Owner) → ValidOwner o → (calls : List (Call box)) → NoFuture o calls
no_future o valid calls = record {
  known = λ point accepted. known_step (done_point laws index (good_part laws index valid point) point) accepted;
  held = λ {v = v} {cs = cs} part r n b k over m.
      held_run n k over v cs (good_part laws index valid part) b (subst (λ (l : List (Answer box)). NoReload box l) part.answered r)
      (subst (λ (x : View box). k among x.keys) part.ends m);
  same = λ {v = v} {cs = cs} part n b.
      let r = same_run n v cs (good_part laws index valid part) b in
      (r.0 ∙ sym part.ends, r.1 ∙ ap (without n cs) (sym part.answered));
}
