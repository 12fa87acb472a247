-- The reply to a FindContent, by document 02. For a key that is held: the content lent if it has 1 to 1,267 bytes, else the connection id
-- lent, and 23 where that is zero. For a key that is not held: the records of the entries nearer to its id than we are, nearest first, equal
-- ones once, as many as one message holds.
use Rattle.std.specs.Prelude.{ℕ, Bool, cond, ◌&&◌, List, [], ◌∷◌, map, leb, ltb, length, replicate}
use Rattle.refusal.specs.Outcome.{Outcome, given, refused}
use Rattle.distance.specs.Distance.{distance_of}
use Rattle.content_key.specs.Key.{key_id}
use Rattle.message.specs.Values.{Message, found_content}
use Rattle.message.specs.Encode.{encode}
use Rattle.message.specs.Rules.{connected}
use Rattle.key_index.specs.View as index
use Rattle.key_index.specs.Calls.{is_held}
use Rattle.routing_table.specs.View.{View}
use Rattle.routing_table.specs.declared.Entry.{Entry}
use Rattle.replies.specs.Groups.{first_group}
use Rattle.replies.specs.Chosen.{away_from, nearest_by, entry_record, once}

-- no connection id
abbrev pub no_connection : List ℕ
no_connection = replicate 4 0

-- the content, or else the connection id
unfoldable pub held_reply : List ℕ → List ℕ → Outcome (List Message)
held_reply content connection =
    cond (leb 1 (length content) && leb (length content) 1267) (given (found_content no_connection [] content ∷ []))
    (cond (connected connection) (given (found_content connection [] [] ∷ [])) (refused 23))

-- an entry is nearer to an id than we are
abbrev pub is_nearer : View → List ℕ → Entry → Bool
is_nearer v id e = ltb (away_from id e) (distance_of id v.own)

-- one FoundContent can hold these records: at most 32, in at most 1,280 bytes
abbrev pub content_fit : List (List ℕ) → Bool
content_fit records = leb (length records) 32 && leb (length (encode (found_content no_connection records []))) 1280

-- the records of the entries that are nearer, nearest first, equal ones once
abbrev pub nearer_records : View → List ℕ → List (List ℕ)
nearer_records v id = once (map entry_record (nearest_by id (is_nearer v id) v))

-- as many of them as one message holds
abbrev pub nearer_reply : View → List ℕ → Message
nearer_reply v id = found_content no_connection (first_group content_fit [] (nearer_records v id)) []

unfoldable pub content_reply : index.View → View → List ℕ → List ℕ → List ℕ → Outcome (List Message)
content_reply held v content connection key =
    cond (is_held key held) (held_reply content connection) (given (nearer_reply v (key_id key) ∷ []))
