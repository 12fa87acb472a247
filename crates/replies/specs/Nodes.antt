-- The reply to a FindNode, by document 02: our own record first if 0 is asked for, then those of the entries whose log distance is asked for,
-- nearest to us first; equal ones once. 23 where our own record is asked for and has not 1 to 300 bytes.
use Rattle.std.specs.Prelude.{ℕ, Bool, not, cond, ◌&&◌, List, [], ◌∷◌, ◌++◌, map, leb, length}
use Rattle.refusal.specs.Outcome.{Outcome, given, refused}
use Rattle.distance.specs.Distance.{log_distance_of, asked_of}
use Rattle.message.specs.Values.{Message, found_nodes}
use Rattle.message.specs.Encode.{encode}
use Rattle.routing_table.specs.View.{View}
use Rattle.routing_table.specs.Good.{record_fits}
use Rattle.routing_table.specs.declared.Entry.{Entry}
use Rattle.replies.specs.Groups.{groups}
use Rattle.replies.specs.Chosen.{nearest_by, entry_record, once}

-- the log distance of an entry from us is among those asked for
abbrev pub is_asked : View → List ℕ → Entry → Bool
is_asked v distances e = asked_of distances (log_distance_of v.own e.contact.id)

-- our own record, if 0 is asked for
abbrev pub own_first : List ℕ → List ℕ → List (List ℕ)
own_first own distances = cond (asked_of distances 0) (own ∷ []) []

-- all records of the reply, in order
abbrev pub nodes_records : View → List ℕ → List ℕ → List (List ℕ)
nodes_records v own distances = once (own_first own distances ++ map entry_record (nearest_by v.own (is_asked v distances) v))

-- one FoundNodes can hold these: at most 32, in at most 1,280 bytes
abbrev pub nodes_fit : List (List ℕ) → Bool
nodes_fit records = leb (length records) 32 && leb (length (encode (found_nodes 1 records))) 1280

-- a message for each group, with the number of messages as its total
abbrev pub numbered : List (List (List ℕ)) → List Message
numbered groups = map (found_nodes (length groups)) groups

-- 1 to 300 bytes
abbrev pub sendable : List ℕ → Bool
sendable bytes = record_fits (length bytes)

unfoldable pub nodes_reply : View → List ℕ → List ℕ → Outcome (List Message)
nodes_reply v own distances =
    cond (asked_of distances 0 && not (sendable own)) (refused 23) (given (numbered (groups nodes_fit (nodes_records v own distances))))
