-- What the rules come to: the message itself, or a refusal from 5 to 8.
-- Assumes nothing.
use Prim.Native.Nat.{ℕ, ◌+◌, ◌≤◌}
use mathlib.Core.Path.{◌≡◌}
use mathlib.Core.Bool.{Bool, true, false, cond, ◌&&◌}
use mathlib.Core.List.{List}
use lib.Dec.{eqb, leb, ltb, lit≤}
use lib.ListN.{length, get_or}
use Rattle.refusal.specs.Outcome.{Outcome, given, refused, map_outcome}
use Rattle.content_key.specs.Key.{key_of}
use Rattle.message.specs.Values.{Message, ping, pong, find_node, found_nodes, find_content, found_content, offer, accept, store}
use Rattle.message.specs.Rules.{all_different, good_records, one, present, connected, ruled, keyed, rules_of}

-- a message that keeps the rules is given, and one that does not is refused with 5 to 8
pub data Judged (m : Message) : Outcome Message → Type 0 where
  kept : Judged m (given m)
  broken : {n : ℕ} → 5 ≤ n → n ≤ 8 → Judged m (refused n)

ruled_judged : (few good : Bool) (m : Message) → Judged m (ruled few good m)
ruled_judged true true m = kept
ruled_judged true false m = broken (lit≤ tt) (lit≤ tt)
ruled_judged false good m = broken (lit≤ tt) (lit≤ tt)

keyed_judged : (key : List ℕ) (m : Message) → Judged m (keyed key m)
unfolding key_of
keyed_judged key m = go (eqb (length key) 9) (leb (get_or key 0 0) 1)
  where
    go : (nine selector : Bool)
        → Judged m (map_outcome (λ (k : List ℕ). m) (cond nine (cond selector (given key) (refused 8)) (refused 7)))
    go true true = kept
    go true false = broken (lit≤ tt) (lit≤ tt)
    go false selector = broken (lit≤ tt) (lit≤ tt)

-- the rules judge so
pub judged : (m : Message) → Judged m (rules_of m)
unfolding rules_of
judged (ping radius) = kept
judged (pong radius) = kept
judged (find_node ds) = ruled_judged (leb (length ds) 256) (all_different eqb ds) (find_node ds)
judged (found_nodes total rs) = ruled_judged (leb (length rs) 32) (ltb 0 total && good_records rs) (found_nodes total rs)
judged (find_content key) = keyed_judged key (find_content key)
judged (found_content connection rs content) =
    ruled_judged (leb (length rs) 32)
    (good_records rs && leb (one (connected connection) + one (present rs) + one (present content)) 1)
    (found_content connection rs content)
judged (offer key) = keyed_judged key (offer key)
judged (accept key) = keyed_judged key (accept key)
judged (store connection content) =
    ruled_judged true (eqb (one (connected connection) + one (present content)) 1) (store connection content)

-- the rules never give another message
pub rules_same : (m m' : Message) → rules_of m ≡ given m' → m ≡ m'
rules_same m m' e = go (rules_of m) (judged m) e
  where
    go : (o : Outcome Message) → Judged m o → o ≡ given m' → m ≡ m'
    go _ kept w = cc
    go _ (broken l h) w = cc
