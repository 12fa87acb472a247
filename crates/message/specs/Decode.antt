-- Reading a message: 1 no bytes, 2 over 1,280, 3 a type that is not 1 to 9, 4 the layout, and then the rules on the values. The whole
-- layout, every offset of it, comes before any count, and counts before items.
use Rattle.std.specs.Prelude.{ℕ, ◌-◌, Bool, cond, ◌&&◌, List, [], ◌∷◌, reverse, eqb, leb, ltb, length, get_or, take, drop}
use Rattle.std.proofs.Math.Option.{Option, some, none}
use Rattle.refusal.specs.Outcome.{Outcome, refused}
use Rattle.message.specs.Values.{Message, ping, pong, find_node, found_nodes, find_content, found_content, offer, accept, store}
use Rattle.message.specs.Records.{offset_of, records_of}
use Rattle.message.specs.Rules.{rules_of}

abbrev pub map_some : {A B : Type 0} → (A → B) → Option A → Option B
map_some f none = none
map_some f (some a) = some (f a)

-- a radius: 32 bytes, lightest first
unfoldable pub radius_of : List ℕ → Option (List ℕ)
radius_of body = cond (eqb (length body) 32) (some (reverse body)) none

-- what follows a fixed part of n bytes whose last four are the offset of the rest, which is n
unfoldable pub rest_of : ℕ → List ℕ → Option (List ℕ)
rest_of n body = cond (leb n (length body) && eqb (offset_of (drop (n - 4) body)) n) (some (drop n body)) none

-- FoundContent: an offset that is 12, and a second one from 12 to the container's length
unfoldable pub two_offsets : List ℕ → Bool
two_offsets body =
    leb 12 (length body)
    && eqb (offset_of (drop 4 body)) 12
    && leb 12 (offset_of (drop 8 body))
    && leb (offset_of (drop 8 body)) (length body)

unfoldable pub found_content_of : List ℕ → Option Message
found_content_of body =
    cond (two_offsets body)
    (map_some (λ (rs : List (List ℕ)). found_content (take 4 body) rs (drop (offset_of (drop 8 body)) body))
    (records_of (take (offset_of (drop 8 body) - 12) (drop 12 body))))
    none

unfoldable pub found_nodes_of : ℕ → Option (List ℕ) → Option Message
found_nodes_of total none = none
found_nodes_of total (some list) = map_some (found_nodes total) (records_of list)

-- the values of a container of a type from 1 to 9, if its layout is right
unfoldable pub layout_of : ℕ → List ℕ → Option Message
layout_of kind body =
    cond (eqb kind 1) (map_some ping (radius_of body))
    (cond (eqb kind 2) (map_some pong (radius_of body))
    (cond (eqb kind 3) (map_some find_node (rest_of 4 body))
    (cond (eqb kind 4) (found_nodes_of (get_or body 0 0) (rest_of 5 body))
    (cond (eqb kind 5) (map_some find_content (rest_of 4 body))
    (cond (eqb kind 6) (found_content_of body)
    (cond (eqb kind 7) (map_some offer (rest_of 4 body))
    (cond (eqb kind 8) (map_some accept (rest_of 4 body))
    (map_some (store (take 4 body)) (rest_of 8 body)))))))))

abbrev pub ruled_or4 : Option Message → Outcome Message
ruled_or4 none = refused 4
ruled_or4 (some m) = rules_of m

unfoldable pub decode : List ℕ → Outcome Message
decode [] = refused 1
decode (kind ∷ body) =
    cond (ltb 1280 (length (kind ∷ body))) (refused 2)
    (cond (leb 1 kind && leb kind 9) (ruled_or4 (layout_of kind body))
    (refused 3))
