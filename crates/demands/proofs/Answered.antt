-- The views of a run of code calls follow the steps of the box, so demand 3 speaks of them: from each answer, what it stands for. Nothing is
-- asked of the indexes. Assumes nothing.
use mathlib.Core.Path.{◌≡◌, refl, sym, ap, ◌∙◌}
use mathlib.Core.Bool.{Bool, true, false, cond}
use mathlib.Core.List.{List, ◌∷◌, ◌++◌}
use Prim.Native.Nat.{ℕ}
use Rattle.std.specs.Prelude.{Option, Some, None, Result, Ok, Err}
use Rattle.rlp.specs.declared.Payload.{Payload}
use Rattle.refusal.specs.Says.{only}
use Rattle.refusal.specs.declared.Refusal.{Refusal}
use Rattle.runs.specs.Views.{View, Call, Answer, refused, stored, evicted, removed, reloaded}
use Rattle.runs.specs.Runs.{Part, run, answers}
use Rattle.key_index.specs.View as index
use Rattle.key_index.specs.View.{key_limit, view, fresh_of}
use Rattle.key_index.specs.Good.{good}
use Rattle.key_index.specs.declared.KeyIndex.{KeyIndex}
use Rattle.key_store.specs.Store.{Storing, store_of}
use Rattle.key_store.specs.Answer as stores
use Rattle.key_store.specs.declared.Stored.{Stored}
use Rattle.key_remove.specs.Remove.{Removing, remove_of}
use Rattle.key_remove.specs.Answer as removes
use Rattle.snapshot.specs.Load.{Loading, bad_line, loaded, load_of}
use Rattle.snapshot.specs.Calls as reloads
use Rattle.demands.specs.Box.{Owner, grouped}
use Rattle.demands.specs.Setting.{box}
use Rattle.demands.specs.Step.{after_store, after_remove, after_reload, step}
use Rattle.demands.specs.Answered.{viewed, kept_says, store_says, check_says, Answered, storing, removing, reloading, Answers, none, next}

-- a store call: the view to go on with, and what is said
abbrev store_does : stores.Given → View box × Answer box
store_does (stores.back says index) = (viewed index, refused says)
store_does (stores.now payload v) = (grouped v, stored)
store_does (stores.without payload key v) = (grouped v, evicted key)

store_by : (index : KeyIndex) (s : Storing) → after_store (viewed index) s ≡ store_does (stores.given_by index s)
store_by index (Storing.refused says) = refl
store_by index (Storing.stored payload v) = refl
store_by index (Storing.evicted payload key v) = refl

handed_said : (payload : Payload) (key : Option (List ℕ)) (index : KeyIndex) → store_does (stores.handed_by payload key (view index)) ≡ (viewed index, kept_says key)
handed_said payload None index = refl
handed_said payload (Some key) index = refl

store_said : (r : Result Stored Refusal) (index : KeyIndex) → store_does (stores.meaning_of r index) ≡ (viewed index, store_says r)
store_said (Ok s) index = handed_said s.payload s.evicted index
store_said (Err why) index = refl

-- a remove call
abbrev remove_does : removes.Given → View box × Answer box
remove_does (removes.back says index) = (viewed index, refused says)
remove_does (removes.now v) = (grouped v, removed)

remove_by : (index : KeyIndex) (s : Removing) → after_remove (viewed index) s ≡ remove_does (removes.given_by index s)
remove_by index (Removing.refused says) = refl
remove_by index (Removing.removed v) = refl

remove_said : (r : Result (Unit {0}) Refusal) (index : KeyIndex) → remove_does (removes.meaning_of r index) ≡ (viewed index, check_says removed r)
remove_said (Ok _) index = refl
remove_said (Err why) index = refl

-- a reload call
abbrev reload_does : reloads.Reloading → View box × Answer box
reload_does (reloads.back says index) = (viewed index, refused says)
reload_does (reloads.now v) = (grouped v, reloaded)

reload_by : (index : KeyIndex) (t : Bool) (l : Loading)
    → cond t (after_reload (viewed index) l) (viewed index, refused (only 0)) ≡ reload_does (cond t (reloads.reloaded_by index l) (reloads.back (only 0) index))
reload_by index true (bad_line line) = refl
reload_by index true (loaded v) = refl
reload_by index false l = refl

reload_said : (r : Result (Unit {0}) Refusal) (index : KeyIndex) → reload_does (reloads.meaning_of r index) ≡ (viewed index, check_says reloaded r)
reload_said (Ok _) index = refl
reload_said (Err why) index = refl

-- a call that is answered as its contract says is a step: its view, and what it says
pub answered_step : {index after : KeyIndex} {c : Call box} {a : Answer box} → Answered index c after a → step (viewed index) c ≡ (viewed after, a)
answered_step {index} (storing {raw = raw} {brought = brought} r after e) =
    store_by index (store_of key_limit (view index) raw.bytes brought.content brought.newest) ∙ ap store_does (sym e) ∙ store_said r after
answered_step {index} (removing {raw = raw} r after e) =
    remove_by index (remove_of key_limit (view index) raw.bytes) ∙ ap remove_does (sym e) ∙ remove_said r after
answered_step {index} (reloading {text = text} r after e) =
    reload_by index (good key_limit (view index)) (load_of text) ∙ ap reload_does (sym e) ∙ reload_said r after

-- the views follow the run
pub answered_run : {index last : KeyIndex} {cs : List (Call box)} {told : List (Answer box)} → Answers index cs last told
    → (run box step (viewed index) cs ≡ viewed last) × (answers box step (viewed index) cs ≡ told)
answered_run none = (refl, refl)
answered_run {index} {last} (next {middle = middle} {c = c} {cs = cs} {a = a} {told = told} first rest) =
    let s = answered_step first in
    let r = answered_run rest in (
      ap (λ (p : View box × Answer box). run box step p.0 cs) s ∙ r.0,
      ap (λ (p : View box × Answer box). p.1 ∷ answers box step p.0 cs) s ∙ ap (λ (l : List (Answer box)). a ∷ l) r.1,
    )

-- so calls that are answered so, from an index that `fresh` gave, are a part of a run of the box
pub answered_part : {o : Owner} {first index last : KeyIndex} {before cs : List (Call box)} {said told : List (Answer box)} (after : List (Call box))
    → view first ≡ fresh_of o.node o.cap → Answers first before index said → Answers index cs last told
    → Part box step o (before ++ (cs ++ after)) (viewed index) cs (viewed last) told
answered_part {before = before} {cs = cs} after e p q = record {
  before = before;
  after = after;
  whole = refl;
  begins = sym (ap (λ (v : index.View). run box step (grouped v) before) (sym e) ∙ (answered_run p).0);
  ends = sym (answered_run q).0;
  answered = sym (answered_run q).1;
}
