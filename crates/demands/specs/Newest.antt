-- Document 02's wish 7, a member's case: calls that name no newer block than n, and the keys of blocks over n.
use Rattle.std.specs.Prelude.{ℕ, ◌≤◌, ◌<◌, ◌≡◌, cond, List, [], ◌∷◌, leb}
use Rattle.content_key.specs.Key.{block_of}
use Rattle.nearest.specs.Sorted.{◌among◌}
use Rattle.runs.specs.Views.{View, Call, store, remove, reload, Answer}
use Rattle.runs.specs.Runs.{Part, Point, run, answers, Accepted, NoReload}
use Rattle.demands.specs.Box.{Owner, Raw, Brought}
use Rattle.demands.specs.Setting.{box}
use Rattle.demands.specs.Step.{step}

-- every store call names a newest block number of at most n
abbrev pub NewestIn : ℕ → List (Call box) → Type 0
NewestIn n [] = Unit {0}
NewestIn n (store raw brought ∷ cs) = (brought.newest ≤ n) × NewestIn n cs
NewestIn n (remove raw ∷ cs) = NewestIn n cs
NewestIn n (reload text ∷ cs) = NewestIn n cs

-- of a list that has an item for each call: all but the items of store calls whose key bytes have a number over n
abbrev pub without : {A : Type 0} → ℕ → List (Call box) → List A → List A
without n [] l = l
without n (c ∷ cs) [] = []
without n (store raw brought ∷ cs) (x ∷ l) = cond (leb (block_of raw.bytes) n) (x ∷ without n cs l) (without n cs l)
without n (remove raw ∷ cs) (x ∷ l) = x ∷ without n cs l
without n (reload text ∷ cs) (x ∷ l) = x ∷ without n cs l

pub record NoFuture (o : Owner) (calls : List (Call box)) : Type 0 where
  -- each key that is taken in, in the place of another or not, has a number of at most the newest that its call names
  pub known : {v w : View box} {raw : Raw} {brought : Brought} {a : Answer box} → Point box step o calls v (store raw brought) w a → Accepted box a
      → block_of raw.bytes ≤ brought.newest
  -- over a part with no accepted reload in which every store call names a newest number of at most n, no key over n is taken in: each that is
  -- held at its end was held at its start,
  pub held : {v w : View box} {cs : List (Call box)} {told : List (Answer box)} → Part box step o calls v cs w told → NoReload box told
      → (n : ℕ) → NewestIn n cs → (k : List ℕ) → n < block_of k → k among w.keys → k among v.keys
  -- and none is the reason that another is evicted: without the store calls of keys over n the part ends with the same view, and every other
  -- call is answered the same, with the same keys named as evicted
  pub same : {v w : View box} {cs : List (Call box)} {told : List (Answer box)} → Part box step o calls v cs w told
      → (n : ℕ) → NewestIn n cs → (run box step v (without n cs cs) ≡ w) × (answers box step v (without n cs cs) ≡ without n cs told)
