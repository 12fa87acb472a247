-- What demand 3 says of the box where its own terms are plainer than those of the theory: keys are held or not by their bytes, a key counts as
-- presented by its bytes, its number and its content, the radius is the one that the index gives, and a text is accepted by its saved form.
-- The numbers are those of the parts in `Demand3` of `runs`.
use Rattle.std.specs.Prelude.{ℕ, ◌≤◌, ◌<◌, ◌≡◌, true, ◌↔◌, List, length}
use Rattle.refusal.specs.Outcome.{given}
use Rattle.octets.specs.Bytes.{be}
use Rattle.content_key.specs.Key.{block_of}
use Rattle.rlp.specs.Content.{content_of}
use Rattle.rlp.specs.declared.Payload.{Payload}
use Rattle.nearest.specs.Sorted.{◌among◌}
use Rattle.runs.specs.Views.{View, Call, store, reload, Answer}
use Rattle.runs.specs.Runs.{Part, Point, Accepted, Stretch, Presents, Presented, Candidate}
use Rattle.key_index.specs.View.{key_limit}
use Rattle.key_index.specs.Good.{away_from, good, radius_of}
use Rattle.snapshot.specs.Shape.{Saved}
use Rattle.demands.specs.Box.{Owner, ValidKey, Raw, Brought, spread}
use Rattle.demands.specs.Setting.{box}
use Rattle.demands.specs.Step.{step}

-- a store call with acceptable content, whose key bytes are this key: nine of them, with a selector of 0 or 1
pub record Brings (raw : Raw) (brought : Brought) (k : List ℕ) : Type 0 where
  pub bytes : raw.bytes ≡ k
  pub valid : ValidKey k
  pub acceptable : (payload : Payload) × (content_of brought.content ≡ given payload)

pub record Plainly (o : Owner) (calls : List (Call box)) : Type 0 where
  -- 1. at each point the index passes the test behind number 0, so no call that tests it gives 0, saving and the rest among them
  pub passes : {v w : View box} {cs : List (Call box)} {told : List (Answer box)} → Part box step o calls v cs w told
      → good key_limit (spread v) ≡ true
  -- 3. in `Candidate` and `Presented` a key counts as presented in a store call that brings it with acceptable content exactly when its
  -- number is at most the newest that this call names, and it is within the cap
  pub presents : {p : Owner} {raw : Raw} {brought : Brought} {k : List ℕ}
      → Presents box p (store raw brought) k ↔ (Brings raw brought k × (block_of k ≤ brought.newest) × (away_from p.node k ≤ be p.cap))
  -- a stretch that ends with fewer keys than the limit ends with every key that was held at its start, or so presented in it
  pub all : {v w : View box} {cs : List (Call box)} {told : List (Answer box)} → Part box step o calls v cs w told → Stretch box told
      → length w.keys < key_limit → (k : List ℕ) → Candidate box v cs k → k among w.keys
  -- and in any stretch each of these that is not held at its end is farther than every key that is
  pub others : {v w : View box} {cs : List (Call box)} {told : List (Answer box)} → Part box step o calls v cs w told → Stretch box told
      → (k : List ℕ) → Candidate box v cs k → ¬ (k among w.keys) → (j : List ℕ) → j among w.keys
      → away_from v.owner.node j < away_from v.owner.node k
  -- 4. two stretches, of this list or of another, that start with the same view and in which the same keys are so presented end with the
  -- same keys in the same places
  pub alike : {v w w' : View box} {cs calls' cs' : List (Call box)} {told told' : List (Answer box)} (o' : Owner)
      → Part box step o calls v cs w told → Stretch box told → Part box step o' calls' v cs' w' told' → Stretch box told'
      → ((k : List ℕ) → Presented box v.owner cs k ↔ Presented box v.owner cs' k) → w.keys ≡ w'.keys
  -- 5. a key not held, with acceptable content, is stored exactly when its number is at most the newest that the call names and its distance
  -- is at most the radius that the index gave just before
  pub accepts : {v w : View box} {raw : Raw} {brought : Brought} {a : Answer box} {k : List ℕ}
      → Point box step o calls v (store raw brought) w a → Brings raw brought k → ¬ (k among v.keys)
      → (Accepted box a × (k among w.keys)) ↔ ((block_of k ≤ brought.newest) × (away_from v.owner.node k ≤ be (radius_of key_limit (spread v))))
  -- 8. a reload is accepted exactly when its text is a saved form, in one of the two kinds, of a view that keeps the rules of that kind, and
  -- leaves that view
  pub reloads : {v w : View box} {text : List ℕ} {a : Answer box} → Point box step o calls v (reload text) w a
      → (u : View box) → Saved (spread u) text ↔ (Accepted box a × (w ≡ u))
