-- Each call of the box, on a view that keeps the rules, does one of the things that a call may do. Assumes nothing.
use Prim.Native.Nat.{ℕ, ◌≤◌}
use native.Mathlib.Omega.{arith}
use mathlib.Core.Path.{◌≡◌, refl, sym, ap, subst, ◌∙◌}
use mathlib.Core.Bool.{Bool, true, false, true≢false}
use mathlib.Core.List.{List}
use Rattle.refusal.specs.Outcome.{Outcome}
use Rattle.octets.proofs.Equal.{member_holds}
use Rattle.content_key.specs.Key.{key_of}
use Rattle.content_key.proofs.Keys.{key_length, key_selector, key_given}
use Rattle.rlp.specs.declared.Payload.{Payload}
use Rattle.runs.specs.Views.{View, Call, store, remove, reload, Answer, Good, radius, Held}
use Rattle.runs.specs.Done.{Admitted, no_key, unfit, held, beyond, no_key_out, absent, bad_text, Taken, Done, refusing, storing, removing, reloading, Index}
use Rattle.runs.proofs.Views.{radius_room, radius_full}
use Rattle.runs.proofs.Steps.{evicting_offer}
use Rattle.runs.proofs.Equal.{held_iff}
use Rattle.key_index.specs.View.{key_limit, with_keys}
use Rattle.key_index.specs.Good.{away_from, last_of}
use Rattle.key_index.specs.Calls.{is_held}
use Rattle.key_store.specs.Store.{Storing}
use Rattle.key_store.specs.Cases as case
use Rattle.key_store.specs.Cases.{Asked, Fresh, Stores}
use Rattle.key_store.proofs.Answers.{examine_future, examine_known}
use Rattle.key_store.proofs.Cases.{store_cases}
use Rattle.key_remove.specs.Remove.{Removing, remove_of}
use Rattle.key_remove.proofs.Cases.{remove_no_key, remove_absent, remove_held}
use Rattle.key_remove.proofs.Without.{without_split}
use Rattle.snapshot.specs.Load.{Loading, bad_line, loaded, load_of}
use Rattle.snapshot.proofs.Forms.{accepted_good}
use Rattle.demands.specs.Box.{Raw, Brought, grouped, spread, fault_in, view_in}
use Rattle.demands.specs.Setting.{box}
use Rattle.demands.specs.Step.{after_store, after_remove, after_reload, step}
use Rattle.demands.proofs.Laws.{laws}
use Rattle.demands.proofs.Terms.{equal, admitted_iff, good_passes, passes_good, good_bytes, radius_is}

-- the view and the answer are what the call does
abbrev pub Does : View box → Call box → View box × Answer box → Type 0
Does v c after = Done box v c after.0 after.1

module _ (v : View box) (g : Good box v) where
  module _ (raw : Raw) (brought : Brought) where
    -- what storing knows of its key, in the terms of `runs`: it is admitted, new, taken
    asked : {payload : Payload} → Asked key_limit (spread v) raw.bytes brought.content brought.newest payload → Admitted box v.owner raw brought raw.bytes
    asked {payload} a =
        (admitted_iff v.owner raw brought raw.bytes).1 (
          record {
            bytes = refl;
            valid = record { nine = record { size = a.size; bytes = raw.each }; selector = a.selector };
            acceptable = (payload, a.listed);
          },
          a.known,
        )

    new : Fresh (spread v) raw.bytes → ¬ Held box v raw.bytes
    new f h = f.out ((held_iff box v equal raw.bytes).0 h)

    taken : {payload : Payload} → Asked key_limit (spread v) raw.bytes brought.content brought.newest payload → Fresh (spread v) raw.bytes → away_from v.owner.node raw.bytes ≤ radius box v
        → Taken box v raw brought raw.bytes
    taken a f h = record { admitted = asked a; new = new f; near = h }

    -- each case of storing is an outcome
    store_case : {s : Storing} → Stores key_limit (spread v) raw.bytes brought.content brought.newest s
        → Does v (store raw brought) (after_store v s)
    store_case (case.bad h) = absurd (true≢false (sym (good_passes v g) ∙ h))
    store_case (case.no_length h l) = refusing (no_key (key_length raw.bytes l))
    store_case (case.no_selector h l s) = refusing (no_key (key_selector raw.bytes l s))
    store_case (case.future h l s n) =
        refusing (unfit (key_given raw.bytes l s) (ap fault_in (examine_future raw.bytes brought.content brought.newest n)))
    store_case (case.no_content h l s n t) =
        refusing (unfit (key_given raw.bytes l s) (ap fault_in (examine_known raw.bytes brought.content brought.newest n ∙ t)))
    store_case (case.held a m) = refusing (held (asked a) m)
    store_case (case.beyond a f h) = refusing (beyond (asked a) (new f) (omega (arith, radius_is v)))
    store_case (case.room a f h w) = storing (taken a f (omega (arith, radius_room laws v h))) h
    store_case (case.full a f h front e w) =
        evicting_offer laws g (taken a f (omega (arith, radius_full laws v front (last_of v.keys) (omega arith) e))) front (last_of v.keys) h e

    store_done : Does v (store raw brought) (step v (store raw brought))
    store_done = store_case (store_cases key_limit (spread v) raw.bytes brought.content brought.newest (omega arith) (good_bytes v g) raw.each)

  -- so is each case of removing
  module _ (raw : Raw) where
    abbrev After : Removing → Type 0
    After s = Does v (remove raw) (after_remove v s)

    held_case : (key : List ℕ) → key_of raw.bytes ≡ Outcome.given key → (t : Bool) → is_held key (spread v) ≡ t
        → After (remove_of key_limit (spread v) raw.bytes)
    held_case key e true h =
        let s = without_split key v.keys h in
        subst After (sym (remove_held key_limit (spread v) raw.bytes (good_passes v g) (sym e) h))
        (subst (λ (l : List (List ℕ)). After (Removing.removed (with_keys (spread v) l))) (sym s.rest)
        (removing s.before s.after e s.whole))
    held_case key e false h =
        subst After (sym (remove_absent key_limit (spread v) raw.bytes (good_passes v g) (sym e) h))
        (refusing (absent e (λ m. true≢false (sym (member_holds key v.keys m) ∙ h))))

    remove_case : (o : Outcome (List ℕ)) → key_of raw.bytes ≡ o → After (remove_of key_limit (spread v) raw.bytes)
    remove_case (Outcome.given key) e = held_case key e (is_held key (spread v)) refl
    remove_case (Outcome.refusal says) e =
        subst After (sym (remove_no_key key_limit (spread v) raw.bytes (good_passes v g) (sym e))) (refusing (no_key_out e))

  -- and each case of reloading
  module _ (text : List ℕ) where
    load_case : (l : Loading) → load_of text ≡ l → Does v (reload text) (after_reload v l)
    load_case (bad_line line) e = refusing (bad_text (ap view_in e))
    load_case (loaded w) e =
        let l = accepted_good text w e in
        reloading (ap view_in e, passes_good (grouped w) l.0 l.1)

  reload_done : (text : List ℕ) → Does v (reload text) (step v (reload text))
  reload_done text = rw (good_passes v g) (load_case text (load_of text) refl)

-- every call does one of these
pub does : (v : View box) (c : Call box) → Good box v → Does v c (step v c)
does v (store raw brought) g = store_done v g raw brought
does v (remove raw) g = remove_case v g raw (key_of raw.bytes) refl
does v (reload text) g = reload_done v g text

-- so the box is an index
abbrev pub index : Index box
index = record { step = step; done = does }
