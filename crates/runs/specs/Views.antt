-- Views, calls and answers in a setting; the rules of a view, and its announced radius.
use Rattle.std.specs.Prelude.{ℕ, ◌≤◌, ◌≡◌, cond, List, [], ltb, length}
use Rattle.refusal.specs.Says.{Said}
use Rattle.refusal.specs.Outcome.{given}
use Rattle.nearest.specs.Sorted.{◌among◌, Sorted, farthest}
use Rattle.runs.specs.Setting.{Setting, ViewOf}

module _ (S : Setting) where
  open S use {Key, Owner, Raw, Content, Text, ValidOwner, ValidKey, dist, cap, limit, Same, text_in}

  abbrev pub View : Type 0
  View = ViewOf Owner Key

  -- a store call with any key bytes and content, a removal with any key bytes, or a reload with any text
  pub data Call : Type 0 where
    store : Raw → Content → Call
    remove : Raw → Call
    reload : Text → Call

  -- what a refusal says, or what an accepted call says: a store names the key that it evicts (document 01: turned out), if any
  pub data Answer : Type 0 where
    refused : Said → Answer
    stored : Answer
    evicted : Key → Answer
    removed : Answer
    reloaded : Answer

  -- a fresh index has no keys
  abbrev pub fresh : Owner → View
  fresh o = record { owner = o; keys = [] }

  -- the same owner with other keys
  abbrev pub holding : View → List Key → View
  holding v ks = record { owner = v.owner; keys = ks }

  -- the rules of a view, behind number 0
  pub record Good (v : View) : Type 0 where
    pub valid_owner : ValidOwner v.owner
    pub valid_keys : (k : Key) → k among v.keys → ValidKey v.owner k
    pub most : length v.keys ≤ limit v.owner
    pub sorted : Sorted (dist v.owner) v.keys
    pub within : (k : Key) → k among v.keys → dist v.owner k ≤ cap v.owner

  -- the announced radius: the cap while there is room, and else the distance of the farthest key held, which is the last
  abbrev pub radius : View → ℕ
  radius v = cond (ltb (length v.keys) (limit v.owner)) (cap v.owner) (farthest (dist v.owner) (cap v.owner) v.keys)

  -- the key, or one that counts as it, is held
  abbrev pub Held : View → Key → Type 0
  Held v k = (j : Key) × (j among v.keys) × Same v.owner j k

  -- the text gives this view, which keeps the rules
  abbrev pub Gives : Text → View → Type 0
  Gives t w = (text_in t ≡ given w) × Good w
