-- A list of calls run from a fresh index, and the parts of such a run.
use Rattle.std.specs.Prelude.{ℕ, ◌+◌, ◌≤◌, ◌≡◌, ◌⊎◌, List, [], ◌∷◌, ◌++◌}
use Rattle.nearest.specs.Sorted.{◌among◌}
use Rattle.runs.specs.Setting.{Setting}
use Rattle.runs.specs.Views.{View, Call, store, remove, reload, Answer, refused, stored, evicted, removed, reloaded, fresh}
use Rattle.runs.specs.Done.{Admitted}

module _ (S : Setting) where
  open S use {Key, Owner, dist, cap, Same}

  abbrev pub Step : Type 0
  Step = View S → Call S → View S × Answer S

  -- the view that a list of calls ends at, each call getting the view that the one before it left
  abbrev pub run : Step → View S → List (Call S) → View S
  run step v [] = v
  run step v (c ∷ cs) = run step (step v c).0 cs

  -- what the calls answer
  abbrev pub answers : Step → View S → List (Call S) → List (Answer S)
  answers step v [] = []
  answers step v (c ∷ cs) = (step v c).1 ∷ answers step (step v c).0 cs

  -- In the run of all the calls from a fresh index, cs is a part, perhaps empty, that begins with the view v, ends with the view w and is
  -- answered by told.
  pub record Part (step : Step) (o : Owner) (calls : List (Call S)) (v : View S) (cs : List (Call S)) (w : View S) (told : List (Answer S))
      : Type 0 where
    pub before : List (Call S)
    pub after : List (Call S)
    pub whole : calls ≡ before ++ (cs ++ after)
    pub begins : v ≡ run step (fresh S o) before
    pub ends : w ≡ run step v cs
    pub answered : told ≡ answers step v cs

  -- a part of one call: it gets the view v, leaves the view w and answers a
  abbrev pub Point : Step → Owner → List (Call S) → View S → Call S → View S → Answer S → Type 0
  Point step o calls v c w a = Part step o calls v (c ∷ []) w (a ∷ [])

  -- the call is accepted
  abbrev pub Accepted : Answer S → Type 0
  Accepted (refused r) = ⊥
  Accepted stored = Unit {0}
  Accepted (evicted k) = Unit {0}
  Accepted removed = Unit {0}
  Accepted reloaded = Unit {0}

  -- no accepted reload
  abbrev pub NoReload : List (Answer S) → Type 0
  NoReload [] = Unit {0}
  NoReload (refused r ∷ told) = NoReload told
  NoReload (stored ∷ told) = NoReload told
  NoReload (evicted k ∷ told) = NoReload told
  NoReload (removed ∷ told) = NoReload told
  NoReload (reloaded ∷ told) = ⊥

  -- a stretch: no accepted removal and no accepted reload
  abbrev pub Stretch : List (Answer S) → Type 0
  Stretch [] = Unit {0}
  Stretch (refused r ∷ told) = Stretch told
  Stretch (stored ∷ told) = Stretch told
  Stretch (evicted k ∷ told) = Stretch told
  Stretch (removed ∷ told) = ⊥
  Stretch (reloaded ∷ told) = ⊥

  -- how often an answer says that a key was stored, evicted, removed
  abbrev pub stores : Answer S → ℕ
  stores (refused r) = 0
  stores stored = 1
  stores (evicted k) = 1
  stores removed = 0
  stores reloaded = 0

  abbrev pub evictions : Answer S → ℕ
  evictions (refused r) = 0
  evictions stored = 0
  evictions (evicted k) = 1
  evictions removed = 0
  evictions reloaded = 0

  abbrev pub removals : Answer S → ℕ
  removals (refused r) = 0
  removals stored = 0
  removals (evicted k) = 0
  removals removed = 1
  removals reloaded = 0

  -- the sum over all answers
  abbrev pub count : (Answer S → ℕ) → List (Answer S) → ℕ
  count of [] = 0
  count of (a ∷ told) = of a + count of told

  -- the call presents k (document 01: it is a store call, accepted or refused, with a key of the right length and selector), with
  -- acceptable content, and k is within the cap
  abbrev pub Presents : Owner → Call S → Key → Type 0
  Presents o (store raw content) k = Admitted S o raw content k × (dist o k ≤ cap o)
  Presents o (remove raw) k = ⊥
  Presents o (reload t) k = ⊥

  -- one of the calls does
  abbrev pub Presented : Owner → List (Call S) → Key → Type 0
  Presented o [] k = ⊥
  Presented o (c ∷ cs) k = Presents o c k ⊎ Presented o cs k

  -- k is held at the start, or presented so
  abbrev pub Candidate : View S → List (Call S) → Key → Type 0
  Candidate v cs k = (k among v.keys) ⊎ Presented v.owner cs k

  -- each key of Q is in P
  abbrev pub Includes : Owner → (Key → Type 0) → (Key → Type 0) → Type 0
  Includes o P Q = (k : Key) → Q k → (j : Key) × P j × Same o j k

  -- the same set of keys
  abbrev pub SameSet : Owner → (Key → Type 0) → (Key → Type 0) → Type 0
  SameSet o P Q = Includes o P Q × Includes o Q P

  -- the same keys in the same places
  abbrev pub SameKeys : Owner → List Key → List Key → Type 0
  SameKeys o [] [] = Unit {0}
  SameKeys o [] (k ∷ ks) = ⊥
  SameKeys o (j ∷ js) [] = ⊥
  SameKeys o (j ∷ js) (k ∷ ks) = Same o j k × SameKeys o js ks
