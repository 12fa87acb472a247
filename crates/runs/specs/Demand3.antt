-- Demand 3: one claim about the whole list of calls.
use Rattle.std.specs.Prelude.{◌+◌, ◌≤◌, ◌≡◌, ◌↔◌, List, [], ◌∷◌, ◌++◌, length}
use Rattle.refusal.specs.Says.{Said, number_in}
use Rattle.refusal.specs.Outcome.{given}
use Rattle.nearest.specs.Sorted.{◌among◌, Sorted}
use Rattle.nearest.specs.Nearest.{Nearest}
use Rattle.runs.specs.Setting.{Setting}
use Rattle.runs.specs.Views.{View, Call, store, remove, reload, Answer, refused, evicted, reloaded, fresh, holding, radius, Held, Gives}
use Rattle.runs.specs.Done.{Admitted, Index}
use Rattle.runs.specs.Runs.{Step, Part, Point, Accepted, NoReload, Stretch, stores, evictions, removals, count, Presented, Candidate, SameSet, SameKeys}

-- no two are equal
abbrev pub Different : {A : Type 0} → List A → Type 0
Different [] = Unit {0}
Different (a ∷ l) = (¬ (a among l)) × Different l

module _ (S : Setting) where
  open S use {Key, Owner, Raw, Content, Text, dist, limit, key_in}

  -- at most so many keys, all different, strictly nearest first, each within the announced radius
  pub record InOrder (v : View S) : Type 0 where
    pub most : length v.keys ≤ limit v.owner
    pub different : Different v.keys
    pub sorted : Sorted (dist v.owner) v.keys
    pub within : (k : Key) → k among v.keys → dist v.owner k ≤ radius S v

  -- Demand 3 of document 01: a fresh index of owner o gets the calls, each call the view that the one before it left. In this run, at
  -- every point and in every part:
  pub record Demand3 (step : Step S) (o : Owner) (calls : List (Call S)) : Type 0 where
    -- 1. at each point the keys are in order,
    pub in_order : {v w : View S} {cs : List (Call S)} {told : List (Answer S)} → Part S step o calls v cs w told → InOrder v
    -- and number 0 is never given
    pub no_zero : {v w : View S} {c : Call S} {r : Said} → Point S step o calls v c w (refused r) → ¬ (number_in r ≡ 0)
    -- 2. node id and cap are those of the fresh index before the first accepted reload,
    pub owner_fresh : {w : View S} {cs : List (Call S)} {told : List (Answer S)} → Part S step o calls (fresh S o) cs w told → NoReload S told
        → w.owner ≡ o
    -- and then those that the last accepted reload gave
    pub owner_reloaded : {v w u : View S} {t : Text} {cs : List (Call S)} {told : List (Answer S)}
        → Part S step o calls v (reload t ∷ cs) w (reloaded ∷ told) → NoReload S told → Gives S t u → w.owner ≡ u.owner
    -- 3. a stretch ends with exactly the nearest of the keys held at its start and those presented in it with acceptable content and
    -- within the cap, as many as the limit allows
    pub nearest : {v w : View S} {cs : List (Call S)} {told : List (Answer S)} → Part S step o calls v cs w told → Stretch S told
        → Nearest (dist v.owner) (limit v.owner) (Candidate S v cs) w.keys
    -- 4. two stretches, of this list or of another that any index runs, that start with the same view and the same set of such keys end
    -- with the same keys in the same places
    pub alike : {v w : View S} {cs : List (Call S)} {told : List (Answer S)} → Part S step o calls v cs w told → Stretch S told
        → (other : Index S) (o' : Owner) {w' : View S} {calls' cs' : List (Call S)} {told' : List (Answer S)}
        → Part S other.step o' calls' v cs' w' told' → Stretch S told'
        → SameSet S v.owner (Presented S v.owner cs) (Presented S v.owner cs')
        → SameKeys S v.owner w.keys w'.keys
    -- 5. a key not held, with acceptable content, is stored (accepted, and held right after) exactly when its distance is at most the
    -- radius announced just before
    pub accepts : {v w : View S} {raw : Raw} {content : Content} {a : Answer S} {k : Key} → Point S step o calls v (store raw content) w a
        → Admitted S v.owner raw content k → ¬ Held S v k → (Accepted S a × (k among w.keys)) ↔ (dist v.owner k ≤ radius S v)
    -- 6. where no reload is accepted, the keys held at the start and the stores accepted are as many as the keys held at the end, those
    -- evicted and those removed, all counted from the answers
    pub counts : {v w : View S} {cs : List (Call S)} {told : List (Answer S)} → Part S step o calls v cs w told → NoReload S told
        → length v.keys + count S (stores S) told ≡ length w.keys + count S (evictions S) told + count S (removals S) told
    -- 7. a store call names a key as evicted exactly when that key left, so nothing else leaves
    pub evicts : {v w : View S} {raw : Raw} {content : Content} {a : Answer S} → Point S step o calls v (store raw content) w a
        → (j : Key) → (a ≡ evicted j) ↔ ((j among v.keys) × (¬ (j among w.keys)))
    -- 8. a removal is accepted exactly when its key is held
    pub removes : {v w : View S} {raw : Raw} {a : Answer S} → Point S step o calls v (remove raw) w a
        → Accepted S a ↔ ((k : Key) × (key_in v.owner raw ≡ given k) × (k among v.keys))
    -- and takes out that key alone;
    pub leaves : {v w : View S} {raw : Raw} {a : Answer S} {k : Key} → Point S step o calls v (remove raw) w a → Accepted S a
        → key_in v.owner raw ≡ given k
        → (front : List Key) × (back : List Key) × (v.keys ≡ front ++ k ∷ back) × (w ≡ holding S v (front ++ back))
    -- a reload is accepted exactly when its text gives a view that keeps the rules, and leaves that view
    pub reloads : {v w : View S} {t : Text} {a : Answer S} → Point S step o calls v (reload t) w a
        → (u : View S) → Gives S t u ↔ (Accepted S a × (w ≡ u))
    -- 9. a refused call leaves the view as it was
    pub refuses : {v w : View S} {c : Call S} {r : Said} → Point S step o calls v c w (refused r) → w ≡ v
