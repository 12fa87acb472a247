-- What an index is over: the parameters of the theory, and the laws that are asked of them.
use Rattle.std.specs.Prelude.{ℕ, ◌<◌, ◌≡◌, ◌↔◌, List}
use Rattle.std.proofs.Math.Option.{Option, some}
use Rattle.refusal.specs.Says.{Said, number_in}
use Rattle.refusal.specs.Outcome.{Outcome, given, refusal}

-- what an index holds (document 01: a shelf): its owner, and the keys held, in order
pub record ViewOf (Owner Key : Type 0) : Type 0 where
  pub owner : Owner
  pub keys : List Key

pub record Setting : Type 1 where
  -- content keys
  pub Key : Type 0
  -- what an index is made with and has until a reload: node id and cap (document 01: ceiling)
  pub Owner : Type 0
  -- the key bytes of a call, right or wrong
  pub Raw : Type 0
  -- what a store call brings beside the key: its content
  pub Content : Type 0
  -- the text of a reload, right or wrong
  pub Text : Type 0
  pub ValidOwner : Owner → Type 0
  pub ValidKey : Owner → Key → Type 0
  -- the distance of the key's id from the node id
  pub dist : Owner → Key → ℕ
  pub cap : Owner → ℕ
  -- how many keys are held at most
  pub limit : Owner → ℕ
  -- the two count as one key: that is, they are equal, or, where ids may collide, they have one id
  pub Same : Owner → Key → Key → Type 0
  -- the key that bytes are, or the refusal 7 or 8
  pub key_in : Owner → Raw → Outcome Key
  -- the refusal that stands against a store call of this key, or none where its content is acceptable
  pub fault : Owner → Key → Content → Option Said
  -- the view that a text is the saved form of, or the refusal 14
  pub text_in : Text → Outcome (ViewOf Owner Key)

-- what is asked of a setting
module _ (S : Setting) where
  open S use {Key, Owner, Raw, Content, Text, ValidOwner, ValidKey, dist, limit, Same, key_in, fault, text_in}

  pub record Laws : Type 0 where
    -- there is room for a key
    pub limit_positive : (o : Owner) → 0 < limit o
    -- keys count as one exactly when they are at one distance; where only equal keys count as one, different keys have different distances
    pub same_distance : (o : Owner) (j k : Key) → ValidOwner o → ValidKey o j → ValidKey o k → Same o j k ↔ (dist o j ≡ dist o k)
    -- what is read as a key is one
    pub key_in_valid : (o : Owner) (raw : Raw) (k : Key) → key_in o raw ≡ given k → ValidKey o k
    -- no refusal has number 0, which is kept for an index that breaks its rules
    pub key_in_number : (o : Owner) (raw : Raw) (r : Said) → key_in o raw ≡ refusal r → 0 < number_in r
    pub fault_number : (o : Owner) (k : Key) (content : Content) (r : Said) → fault o k content ≡ some r → 0 < number_in r
    pub text_in_number : (t : Text) (r : Said) → text_in t ≡ refusal r → 0 < number_in r
