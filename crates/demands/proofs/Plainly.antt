-- Demand 3 in the box's own terms, from demand 3: a key at the distance of a held one is that one. Assumes nothing.
use Prim.Native.Nat.{ℕ, ◌≤◌}
use mathlib.Core.Path.{sym, subst}
use mathlib.Core.Logic.{◌↔◌, ⊎_elim}
use mathlib.Core.List.Memᴰ
use mathlib.Core.List.{List}
use Rattle.octets.specs.Bytes.{be}
use Rattle.content_key.specs.Key.{block_of}
use Rattle.nearest.specs.Sorted.{◌among◌, distances}
use Rattle.runs.specs.Views.{View, Call, store, Answer, Good}
use Rattle.runs.specs.Runs.{Part, Point, Accepted, Presented, Candidate}
use Rattle.runs.specs.Demand3.{Demand3}
use Rattle.runs.proofs.Runs.{good_run, good_part}
use Rattle.runs.proofs.Demand3.{presented_valid}
use Rattle.runs.proofs.Equal.{same_keys_equal, same_set_iff, held_iff}
use Rattle.key_index.specs.View.{key_limit}
use Rattle.key_index.specs.Good.{away_from, radius_of}
use Rattle.demands.specs.Box.{Owner, ValidOwner, ValidKey, Raw, Brought, spread}
use Rattle.demands.specs.Setting.{box}
use Rattle.demands.specs.Step.{step}
use Rattle.demands.specs.Plainly.{Brings, Plainly}
use Rattle.demands.proofs.Laws.{same_distance, laws}
use Rattle.demands.proofs.Terms.{equal, admitted_iff, good_passes, radius_is, gives_iff}
use Rattle.demands.proofs.Steps.{index}
use Rattle.demands.proofs.Newest.{no_future}

module _ (o : Owner) (valid : ValidOwner o) (calls : List (Call box)) where
  module _ {v w : View box} {cs : List (Call box)} {told : List (Answer box)} (part : Part box step o calls v cs w told) where
    good_start : Good box v
    good_start = good_part laws index valid part

    good_end : Good box w
    good_end = subst (λ (x : View box). Good box x) (sym part.ends) (good_run laws index v cs good_start)

    candidate_valid : (k : List ℕ) → Candidate box v cs k → ValidKey k
    candidate_valid k c = ⊎_elim (good_start.valid_keys k) (presented_valid laws v.owner cs k) c

    -- a candidate at the distance of a key held at the end is held
    held_by_distance : (k : List ℕ) → Candidate box v cs k → away_from v.owner.node k among distances (away_from v.owner.node) w.keys
        → k among w.keys
    held_by_distance k c m =
        let t = Memᴰ.of_map (away_from v.owner.node) w.keys m in
        Memᴰ.cast
        (sym ((same_distance v.owner t.0 k good_start.valid_owner (good_end.valid_keys t.0 t.1) (candidate_valid k c)).1 t.2))
        t.1

  -- a key of a known block is stored by its distance alone
  numbered : Demand3 box step o calls → {v w : View box} {raw : Raw} {brought : Brought} {a : Answer box} {k : List ℕ}
      → Point box step o calls v (store raw brought) w a → Brings raw brought k → ¬ (k among v.keys) → block_of k ≤ brought.newest
      → (Accepted box a × (k among w.keys)) ↔ (away_from v.owner.node k ≤ be (radius_of key_limit (spread v)))
  numbered d {v} {w} {raw} {brought} {a} {k} point b new n =
      subst (λ (r : ℕ). (Accepted box a × (k among w.keys)) ↔ (away_from v.owner.node k ≤ r)) (radius_is v)
      (d.accepts point ((admitted_iff v.owner raw brought k).1 (b, n)) (λ h. new ((held_iff box v equal k).0 h)))

  pub plainly : Demand3 box step o calls → Plainly o calls
  plainly d = record {
    passes = λ part. good_passes _ (good_start part);
    presents = λ {p = p} {raw = raw} {brought = brought} {k = k}. (
      λ h. let a = (admitted_iff p raw brought k).0 h.0 in (a.0, a.1, h.1),
      λ h. ((admitted_iff p raw brought k).1 (h.0, h.1), h.2),
    );
    all = λ part s few k c. held_by_distance part k c ((d.nearest part s).all few k c);
    others = λ part s k c out j m. (d.nearest part s).others k c (λ i. out (held_by_distance part k c i)) j m;
    alike = λ {v = v} {w = w} {w' = w'} {cs = cs} {cs' = cs'} o' part s part' s' same.
        same_keys_equal box v.owner equal w.keys w'.keys
        (d.alike part s index o' part' s'
        (same_set_iff box v.owner equal (Presented box v.owner cs) (Presented box v.owner cs') same));
    accepts = λ {raw = raw} {brought = brought} {k = k} point b new. (
      λ p.
          let n : block_of k ≤ brought.newest = rw (sym b.bytes) ((no_future o valid calls).known point p.0) in
          (n, (numbered d point b new n).0 p),
      λ h. (numbered d point b new h.0).1 h.1,
    );
    reloads = λ {text = text} point u.
        (λ h. (d.reloads point u).0 ((gives_iff text u).0 h), λ h. (gives_iff text u).1 ((d.reloads point u).1 h));
  }
