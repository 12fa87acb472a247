-- The reply to any bytes, by document 02: tests 0, 1, 2, 3, 4, 5, 6, 7, 8, 23, 13, in this order. The messages of a reply are values; its bytes
-- are theirs, end to end.
use Rattle.std.specs.Prelude.{ℕ, Bool, cond, ◌&&◌, ◌||◌, List, [], ◌∷◌, map, eqb, ltb, length}
use Rattle.refusal.specs.Outcome.{Outcome, given, refusal, refused}
use Rattle.octets.specs.Equal.{same_bytes}
use Rattle.message.specs.Values.{Message, ping, pong, find_node, found_nodes, find_content, found_content, offer, accept, store}
use Rattle.message.specs.Encode.{encode, joined}
use Rattle.message.specs.Decode.{decode}
use Rattle.key_index.specs.View as index
use Rattle.key_index.specs.Good as rules
use Rattle.routing_table.specs.View.{View}
use Rattle.routing_table.specs.Good.{good}
use Rattle.replies.specs.Nodes.{nodes_reply}
use Rattle.replies.specs.Content.{content_reply}

-- the bytes as a FindNode or a FindContent: any other type is 3, before its layout is looked at
unfoldable pub request_of : List ℕ → Outcome Message
request_of [] = refused 1
request_of (kind ∷ body) =
    cond (ltb 1280 (length (kind ∷ body))) (refused 2)
    (cond (eqb kind 3 || eqb kind 5) (decode (kind ∷ body)) (refused 3))

-- what the caller lends: our own record, content, a connection id
pub record Lent : Type 0 where
  pub own : List ℕ
  pub content : List ℕ
  pub connection : List ℕ

-- the reply to a message: only these two draw one
abbrev pub reply_to : index.View → View → Lent → Message → Outcome (List Message)
reply_to held v lent (find_node distances) = nodes_reply v lent.own distances
reply_to held v lent (find_content key) = content_reply held v lent.content lent.connection key
reply_to held v lent (ping radius) = refused 3
reply_to held v lent (pong radius) = refused 3
reply_to held v lent (found_nodes total records) = refused 3
reply_to held v lent (found_content connection records content) = refused 3
reply_to held v lent (offer key) = refused 3
reply_to held v lent (accept key) = refused 3
reply_to held v lent (store connection content) = refused 3

abbrev pub reply_to_request : index.View → View → Lent → Outcome Message → Outcome (List Message)
reply_to_request held v lent (given m) = reply_to held v lent m
reply_to_request held v lent (refusal says) = refusal says

-- the index and the table keep their rules, and are of one node
abbrev pub agree : ℕ → index.View → View → Bool
agree limit held v = rules.good limit held && good v && same_bytes v.own held.node

-- the messages of the reply, or the refusal, over the limit on the index's keys
unfoldable pub reply_of : ℕ → index.View → View → Lent → List ℕ → Outcome (List Message)
reply_of limit held v lent message = cond (agree limit held v) (reply_to_request held v lent (request_of message)) (refused 0)

-- the bytes of messages, end to end
abbrev pub bytes_of : List Message → List ℕ
bytes_of messages = joined (map encode messages)

-- the messages where their bytes have room, else 13
abbrev pub in_room : ℕ → Outcome (List Message) → Outcome (List Message)
in_room room (given messages) = cond (ltb room (length (bytes_of messages))) (refused 13) (given messages)
in_room room (refusal says) = refusal says
