-- The rules on a message's items (document 01, "Item rules"): 5 too many, 6 another rule, 7 and 8 a bad key. What comes first in that
-- order is given.
use Rattle.std.specs.Prelude.{ℕ, ◌+◌, Bool, true, false, cond, ◌&&◌, List, [], ◌∷◌, eqb, leb, ltb, length}
use Rattle.refusal.specs.Outcome.{Outcome, given, refused, map_outcome}
use Rattle.octets.specs.Bytes.{le}
unfoldable pub use Rattle.octets.specs.Equal.{same_bytes, holds, all_different}
use Rattle.content_key.specs.Key.{key_of}
use Rattle.message.specs.Values.{Message, ping, pong, find_node, found_nodes, find_content, found_content, offer, accept, store}

-- every record has 1 to 300 bytes
unfoldable pub record_sizes : List (List ℕ) → Bool
record_sizes [] = true
record_sizes (r ∷ rs) = leb 1 (length r) && leb (length r) 300 && record_sizes rs

-- every record has 1 to 300 bytes, and no two are equal byte for byte
abbrev pub good_records : List (List ℕ) → Bool
good_records rs = record_sizes rs && all_different same_bytes rs

-- 1 where a thing is present
abbrev pub one : Bool → ℕ
one b = cond b 1 0

abbrev pub present : {A : Type 0} → List A → Bool
present [] = false
present (a ∷ as') = true

-- a connection id that is not zero
abbrev pub connected : List ℕ → Bool
connected connection = ltb 0 (le connection)

-- the message where the first test and then the second hold, 5 where the first fails, 6 where the second does
abbrev pub ruled : Bool → Bool → Message → Outcome Message
ruled few good m = cond few (cond good (given m) (refused 6)) (refused 5)

-- the message where its key is one, else 7 or 8
abbrev pub keyed : List ℕ → Message → Outcome Message
keyed key m = map_outcome (λ (k : List ℕ). m) (key_of key)

unfoldable pub rules_of : Message → Outcome Message
rules_of (ping radius) = given (ping radius)
rules_of (pong radius) = given (pong radius)
rules_of (find_node ds) = ruled (leb (length ds) 256) (all_different eqb ds) (find_node ds)
rules_of (found_nodes total rs) = ruled (leb (length rs) 32) (ltb 0 total && good_records rs) (found_nodes total rs)
rules_of (find_content key) = keyed key (find_content key)
rules_of (found_content connection rs content) =
    ruled (leb (length rs) 32)
    (good_records rs && leb (one (connected connection) + one (present rs) + one (present content)) 1)
    (found_content connection rs content)
rules_of (offer key) = keyed key (offer key)
rules_of (accept key) = keyed key (accept key)
rules_of (store connection content) =
    ruled true (eqb (one (connected connection) + one (present content)) 1) (store connection content)
