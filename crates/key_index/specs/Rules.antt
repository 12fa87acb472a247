-- The rules of an index as facts, beside the test `good` of `specs/Good.antt`.
use Rattle.std.specs.Prelude.{ℕ, suc, ◌≤◌, List, [], ◌∷◌, length}
use Rattle.octets.specs.Bytes.{be}
use Rattle.content_key.specs.Key.{selector_of}
use Rattle.key_index.specs.View.{View}
use Rattle.key_index.specs.Good.{away_from}
use Rattle.key_index.specs.Keys.{Each}

-- strictly nearest first, the first one at a distance of at least `from`
abbrev pub SortedFrom : List ℕ → ℕ → List (List ℕ) → Type 0
SortedFrom node from [] = Unit {0}
SortedFrom node from (k ∷ ks) = (from ≤ away_from node k) × SortedFrom node (suc (away_from node k)) ks

-- the rules on keys at a distance of at least `from`
pub record GoodKeys (node : List ℕ) (cap from : ℕ) (keys : List (List ℕ)) : Type 0 where
  pub selectors : Each (λ (k : List ℕ). selector_of k ≤ 1) keys
  pub sorted : SortedFrom node from keys
  pub within : Each (λ (k : List ℕ). away_from node k ≤ cap) keys

-- the rules of an index
pub record Good (limit : ℕ) (v : View) : Type 0 where
  pub few : length v.keys ≤ limit
  pub each : GoodKeys v.node (be v.cap) 0 v.keys
