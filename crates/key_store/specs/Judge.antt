-- What the tests of a store call say before the index is changed: why it is refused, or the key's place among those held.
use Rattle.std.specs.Prelude.{ℕ, ◌≡◌, true, false, List, leb, Result, Ok, Err}
use Rattle.refusal.specs.Says.{says_of}
use Rattle.refusal.specs.declared.Refusal.{Refusal}
use Rattle.octets.specs.Bytes.{be}
use Rattle.rlp.specs.declared.Payload.{Payload}
use Rattle.key_index.specs.View.{View}
use Rattle.key_index.specs.Good.{away_from, good, radius_of}
use Rattle.key_index.specs.Calls.{is_held}
use Rattle.key_store.specs.Cases.{OfBytes}
use Rattle.key_store.specs.Store.{Storing, refused, store_of, admit_of, put_of}
use Rattle.key_store.specs.Move.{nearer}
use Rattle.key_store.specs.declared.Fitting.{Fitting}

-- a key that is not held and within the radius of a good index, and its place among those held
pub record Fits (limit : ℕ) (v : View) (key : List ℕ) (place : ℕ) : Type 0 where
  pub kept : good limit v ≡ true
  pub made : OfBytes v
  pub new : is_held key v ≡ false
  pub near : leb (away_from v.node key) (be (radius_of limit v)) ≡ true
  pub at : place ≡ nearer v.node (away_from v.node key) v.keys

-- a verdict on a call that comes to this: it is refused, and so says the verdict, or a key that fits is put at its place
pub record Says (limit : ℕ) (v : View) (due : Storing) (r : Result Fitting Refusal) : Type 0 where
  pub refuses : (why : Refusal) → r ≡ Err why → due ≡ refused (says_of why)
  pub puts : (f : Fitting) → r ≡ Ok f → due ≡ put_of limit v f.key f.payload
  pub fits : (f : Fitting) → r ≡ Ok f → Fits limit v f.key f.place

-- the verdict on a store call
abbrev pub Judges : ℕ → View → List ℕ → List ℕ → ℕ → Result Fitting Refusal → Type 0
Judges limit v bytes content newest r = Says limit v (store_of limit v bytes content newest) r

-- the verdict on a key with acceptable content
abbrev pub Admits : ℕ → View → List ℕ → Payload → Result Fitting Refusal → Type 0
Admits limit v key payload r = Says limit v (admit_of limit v key payload) r
