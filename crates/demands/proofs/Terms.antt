-- The terms of `runs` in those of the box. A key is admitted by its bytes and its content; a view keeps the rules exactly when it is shaped
-- and passes the test behind number 0; its announced radius is the one that the index gives; a text gives a view exactly when it is a saved
-- form of it. Assumes nothing.
use Prim.Native.Nat.{ℕ, ◌≤◌, ◌<◌}
use native.Mathlib.Decide.{dec_lt}
use native.Mathlib.Omega.{arith}
use mathlib.Core.Path.{◌≡◌, refl, sym, ap, subst, ◌∙◌}
use mathlib.Core.Bool.{true}
use mathlib.Core.Option.{none}
use mathlib.Core.Logic.{◌↔◌}
use mathlib.Core.List.{List}
use lib.ListN.{length}
use Rattle.octets.specs.Bytes.{be}
use Rattle.refusal.specs.Outcome.{Outcome, given, refusal}
use Rattle.content_key.specs.Key.{selector_of, block_of, key_of}
use Rattle.content_key.proofs.Keys.{key_given}
use Rattle.rlp.specs.declared.Payload.{Payload}
use Rattle.runs.specs.Views.{View, Good, radius, Gives}
use Rattle.runs.specs.Done.{Admitted}
use Rattle.runs.proofs.Views.{radius_room, radius_full}
use Rattle.key_index.specs.View.{key_limit}
use Rattle.key_index.specs.Good.{away_from, good, last_of, radius_of}
use Rattle.key_index.specs.Keys.{NineBytes}
use Rattle.key_index.proofs.Each.{each_member, each_all}
use Rattle.key_index.proofs.Rules.{good_facts, facts_good}
use Rattle.key_store.specs.Store.{examine_of}
use Rattle.key_store.specs.Cases.{OfBytes}
use Rattle.key_store.proofs.Answers.{examine_known, examined_given}
use Rattle.key_index.proofs.Answers.{reach_room, reach_full}
use Rattle.key_store.proofs.Facts.{sorted_near, near_sorted, last_apart}
use Rattle.snapshot.specs.Load.{Loading, bad_line, loaded, load_of}
use Rattle.snapshot.specs.Shape.{Shaped, Saved}
use Rattle.snapshot.proofs.Forms.{accepted_iff, accepted_good}
use Rattle.demands.specs.Box.{Owner, Raw, Brought, grouped, spread, fault_in, view_in}
use Rattle.demands.specs.Setting.{box}
use Rattle.demands.specs.Plainly.{Brings}
use Rattle.demands.proofs.Laws.{key_is, laws}

-- keys count as one where they are equal
pub equal : (j k : List ℕ) → (j ≡ k) ↔ (j ≡ k)
equal j k = (λ e. e, λ e. e)

-- a key is admitted exactly in a store call that brings it with acceptable content and names a newest number that is not below its own
pub admitted_iff : (o : Owner) (raw : Raw) (brought : Brought) (k : List ℕ)
    → Admitted box o raw brought k ↔ (Brings raw brought k × (block_of k ≤ brought.newest))
admitted_iff o raw brought k = (to, from)
  where
    passed : (x : Outcome Payload) → examine_of k brought.content brought.newest ≡ x → fault_in x ≡ none
        → (payload : Payload) × (examine_of k brought.content brought.newest ≡ given payload)
    passed (given payload) e f = (payload, e)
    passed (refusal says) e f = let z : ◌≡◌ {A = ℕ} 0 1 = cc in absurd (omega arith)

    to : Admitted box o raw brought k → Brings raw brought k × (block_of k ≤ brought.newest)
    to a =
        let is = key_is raw k a.presented in
        let p = passed (examine_of k brought.content brought.newest) refl a.acceptable in
        let q = examined_given k brought.content brought.newest p.0 p.1 in
        (record { bytes = is.0; valid = is.1; acceptable = (p.0, q.1) }, q.0)

    from : Brings raw brought k × (block_of k ≤ brought.newest) → Admitted box o raw brought k
    from h =
        let b = h.0 in
        record {
          presented = ap key_of b.bytes ∙ key_given k b.valid.nine.size b.valid.selector;
          acceptable = ap fault_in (examine_known k brought.content brought.newest h.1 ∙ b.acceptable.1);
        }

module _ (v : View box) where
  -- a view that keeps the rules has 32 bytes of node id and of cap, and nine of each key,
  pub good_shaped : Good box v → Shaped (spread v)
  good_shaped g = record {
    node_size = g.valid_owner.node_size;
    node_bytes = g.valid_owner.node_bytes;
    cap_size = g.valid_owner.cap_size;
    cap_bytes = g.valid_owner.cap_bytes;
    nine = each_all NineBytes v.keys (λ k m. (g.valid_keys k m).nine);
  }

  -- and passes the test behind number 0;
  pub good_passes : Good box v → good key_limit (spread v) ≡ true
  good_passes g =
      facts_good key_limit (spread v)
      (record {
        few = g.most;
        each = record {
          selectors = each_all (λ (k : List ℕ). selector_of k ≤ 1) v.keys (λ k m. (g.valid_keys k m).selector);
          sorted = near_sorted v.owner.node 0 v.keys g.sorted;
          within = each_all (λ (k : List ℕ). away_from v.owner.node k ≤ be v.owner.cap) v.keys g.within;
        };
      })

  -- a view of which both are true keeps the rules
  pub passes_good : Shaped (spread v) → good key_limit (spread v) ≡ true → Good box v
  passes_good s t =
      let f = good_facts key_limit (spread v) t in
      record {
        valid_owner = record { node_size = s.node_size; node_bytes = s.node_bytes; cap_size = s.cap_size; cap_bytes = s.cap_bytes };
        valid_keys = λ k m. record {
          nine = each_member NineBytes v.keys s.nine m;
          selector = each_member (λ (j : List ℕ). selector_of j ≤ 1) v.keys f.each.selectors m;
        };
        most = f.few;
        sorted = sorted_near v.owner.node 0 v.keys f.each.sorted;
        within = λ k m. each_member (λ (j : List ℕ). away_from v.owner.node j ≤ be v.owner.cap) v.keys f.each.within m;
      }

  -- it is made of bytes
  pub good_bytes : Good box v → OfBytes (spread v)
  good_bytes g = let s = good_shaped g in record { size = s.node_size; node = s.node_bytes; each = s.nine }

  -- the announced radius is that of the index
  pub radius_is : radius box v ≡ be (radius_of key_limit (spread v))
  radius_is = by (dec_lt (length v.keys) key_limit)
    where
      by : Dec (length v.keys < key_limit) → radius box v ≡ be (radius_of key_limit (spread v))
      by (yes h) = radius_room laws v h ∙ sym (ap be (reach_room key_limit (spread v) h))
      by (no h) =
          let s = last_apart v.keys (omega arith) in
          radius_full laws v s.0 (last_of v.keys) (omega arith) s.1 ∙ sym (ap be (reach_full key_limit (spread v) (omega arith)))

-- a text gives a view exactly when it is a saved form of that view
pub gives_iff : (text : List ℕ) (u : View box) → Saved (spread u) text ↔ Gives box text u
gives_iff text u = (to, λ h. from (load_of text) refl h.0)
  where
    to : Saved (spread u) text → Gives box text u
    to h =
        let e = (accepted_iff text (spread u)).1 h in
        let g = accepted_good text (spread u) e in
        (ap view_in e, passes_good u g.0 g.1)

    from : (l : Loading) → load_of text ≡ l → view_in l ≡ given u → Saved (spread u) text
    from (bad_line line) e f = let z : ◌≡◌ {A = ℕ} 0 1 = cc in absurd (omega arith)
    from (loaded w) e f =
        let same : grouped w ≡ u = cc in
        subst (λ (x : View box). Saved (spread x) text) same ((accepted_iff text w).0 e)
