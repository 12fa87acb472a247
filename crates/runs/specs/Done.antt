-- What a call does: each outcome with its reason. An index owes one proof, that its step always does one of these.
use Rattle.std.specs.Prelude.{◌≤◌, ◌<◌, ◌≡◌, List, [], ◌∷◌, ◌++◌, length}
use Rattle.std.proofs.Math.Option.{none, some}
use Rattle.refusal.specs.Says.{Said, only}
use Rattle.refusal.specs.Outcome.{given, refusal}
use Rattle.nearest.specs.Sorted.{◌among◌}
use Rattle.nearest.specs.Insert.{insert}
use Rattle.runs.specs.Setting.{Setting}
use Rattle.runs.specs.Views.{View, Call, store, remove, reload, Answer, refused, stored, evicted, removed, reloaded, holding, Good, radius, Held, Gives}

module _ (S : Setting) where
  open S use {Key, Owner, Raw, Content, Text, dist, limit, key_in, fault, text_in}

  -- the store call presents k (document 01: with the right length and selector), with acceptable content
  pub record Admitted (o : Owner) (raw : Raw) (content : Content) (k : Key) : Type 0 where
    pub presented : key_in o raw ≡ given k
    pub acceptable : fault o k content ≡ none

  -- the refusals, each in its case only
  pub data Refused (v : View S) : Call S → Said → Type 0 where
    -- 0: the view breaks its rules
    broken : {c : Call S} → ¬ Good S v → Refused v c (only 0)
    -- 7, 8: no key
    no_key : {raw : Raw} {content : Content} {r : Said} → key_in v.owner raw ≡ refusal r → Refused v (store raw content) r
    -- content not acceptable, with the number that is due
    unfit : {raw : Raw} {content : Content} {k : Key} {r : Said} → key_in v.owner raw ≡ given k → fault v.owner k content ≡ some r
        → Refused v (store raw content) r
    -- 11: the key is held
    held : {raw : Raw} {content : Content} {k : Key} → Admitted v.owner raw content k → k among v.keys → Refused v (store raw content) (only 11)
    -- 19: not the key, but one that counts as it is held; never so where only equal keys count as one
    alike : {raw : Raw} {content : Content} {k : Key} → Admitted v.owner raw content k → ¬ (k among v.keys) → Held S v k
        → Refused v (store raw content) (only 19)
    -- 10: beyond the announced radius
    beyond : {raw : Raw} {content : Content} {k : Key} → Admitted v.owner raw content k → ¬ Held S v k → radius S v < dist v.owner k
        → Refused v (store raw content) (only 10)
    -- 7, 8: no key to remove
    no_key_out : {raw : Raw} {r : Said} → key_in v.owner raw ≡ refusal r → Refused v (remove raw) r
    -- 12: the key to remove is not held
    absent : {raw : Raw} {k : Key} → key_in v.owner raw ≡ given k → ¬ (k among v.keys) → Refused v (remove raw) (only 12)
    -- 14, with its line: the text gives no view
    bad_text : {t : Text} {r : Said} → text_in t ≡ refusal r → Refused v (reload t) r

  -- the store call is accepted: its key is admitted, new and within the announced radius
  pub record Taken (v : View S) (raw : Raw) (content : Content) (k : Key) : Type 0 where
    pub admitted : Admitted v.owner raw content k
    pub new : ¬ Held S v k
    pub near : dist v.owner k ≤ radius S v

  -- view, call, next view, answer
  pub data Done (v : View S) : Call S → View S → Answer S → Type 0 where
    -- a refused call leaves the view as it was
    refusing : {c : Call S} {r : Said} → Refused v c r → Done v c v (refused r)
    -- where there is room, the key goes to its place
    storing : {raw : Raw} {content : Content} {k : Key} → Taken v raw content k → length v.keys < limit v.owner
        → Done v (store raw content) (holding S v (insert (dist v.owner) k v.keys)) stored
    -- where there is none, the last key is evicted and named
    evicting : {raw : Raw} {content : Content} {k : Key} (front : List Key) (far : Key) → Taken v raw content k
        → length v.keys ≡ limit v.owner → v.keys ≡ front ++ far ∷ []
        → Done v (store raw content) (holding S v (insert (dist v.owner) k front)) (evicted far)
    -- a removal takes its key out and no other
    removing : {raw : Raw} {k : Key} (front back : List Key) → key_in v.owner raw ≡ given k → v.keys ≡ front ++ k ∷ back
        → Done v (remove raw) (holding S v (front ++ back)) removed
    -- a reload puts the view that its text gives in place of the old one
    reloading : {t : Text} {w : View S} → Gives S t w → Done v (reload t) w reloaded

  -- an index: any step, with a proof that on views that keep the rules it does what a call should
  pub record Index : Type 0 where
    pub step : View S → Call S → View S × Answer S
    pub done : (v : View S) (c : Call S) → Good S v → Done v c (step v c).0 (step v c).1
