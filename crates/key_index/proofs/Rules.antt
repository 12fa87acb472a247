-- The rules of an index, as facts: intro and elim for the Bool `good`, by recursion on the keys. Assumes nothing.
use Prim.Native.Nat.{ℕ, suc, ◌≤◌}
use native.Mathlib.Omega.{arith}
use mathlib.Core.Path.{◌≡◌, refl}
use mathlib.Core.Bool.{true, ◌&&◌}
use mathlib.Core.List.{List, [], ◌∷◌}
use lib.Dec.{leb}
use lib.ListN.{length}
use borrow.Author.Tests.{leb-true, le-leb}
use Rattle.octets.specs.Bytes.{be}
use Rattle.octets.proofs.Tests.{both, join}
use Rattle.content_key.specs.Key.{selector_of}
use Rattle.key_index.specs.View.{View, view_of}
use Rattle.key_index.specs.Good.{away_from, good_from, good}
use Rattle.key_index.specs.Rules.{GoodKeys, Good}
use Rattle.key_index.proofs.Chunks.{chunks_length}

-- keys that pass the test keep the rules
pub from_facts : (node : List ℕ) (cap from : ℕ) (keys : List (List ℕ)) → good_from node cap from keys ≡ true → GoodKeys node cap from keys
unfolding good_from
from_facts node cap from [] e = record { selectors = tt; sorted = tt; within = tt }
from_facts node cap from (k ∷ ks) e =
    let a = both (leb (selector_of k) 1 && leb from (away_from node k) && leb (away_from node k) cap) (good_from node cap (suc (away_from node k)) ks) e in
    let b = both (leb (selector_of k) 1 && leb from (away_from node k)) (leb (away_from node k) cap) a.0 in
    let d = both (leb (selector_of k) 1) (leb from (away_from node k)) b.0 in
    let rest = from_facts node cap (suc (away_from node k)) ks a.1 in
    record {
      selectors = (leb-true (selector_of k) 1 d.0, rest.selectors);
      sorted = (leb-true from (away_from node k) d.1, rest.sorted);
      within = (leb-true (away_from node k) cap b.1, rest.within);
    }

-- keys that keep the rules pass the test
pub facts_from : (node : List ℕ) (cap from : ℕ) (keys : List (List ℕ)) → GoodKeys node cap from keys → good_from node cap from keys ≡ true
unfolding good_from
facts_from node cap from [] g = refl
facts_from node cap from (k ∷ ks) g =
    join _ _
    (join _ _
    (join _ _ (le-leb (selector_of k) 1 g.selectors.0) (le-leb from (away_from node k) g.sorted.0))
    (le-leb (away_from node k) cap g.within.0))
    (facts_from node cap (suc (away_from node k)) ks
    (record { selectors = g.selectors.1; sorted = g.sorted.1; within = g.within.1 }))

-- an index that passes the test keeps the rules
pub good_facts : (limit : ℕ) (v : View) → good limit v ≡ true → Good limit v
unfolding good
good_facts limit v e =
    let a = both (leb (length v.keys) limit) (good_from v.node (be v.cap) 0 v.keys) e in
    record {
      few = leb-true (length v.keys) limit a.0;
      each = from_facts v.node (be v.cap) 0 v.keys a.1;
    }

-- an index that keeps the rules passes the test
pub facts_good : (limit : ℕ) (v : View) → Good limit v → good limit v ≡ true
unfolding good
facts_good limit v g =
    join _ _ (le-leb (length v.keys) limit g.few) (facts_from v.node (be v.cap) 0 v.keys g.each)

-- a good index has at most so many keys as the limit
pub good_count : (limit : ℕ) (node cap bytes : List ℕ) (count : ℕ) → good limit (view_of node cap bytes count) ≡ true → count ≤ limit
good_count limit node cap bytes count g = omega (arith, (good_facts limit (view_of node cap bytes count) g).few, chunks_length count bytes)
