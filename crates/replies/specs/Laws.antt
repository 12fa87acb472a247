-- What is claimed of replies: all of it about the messages as values.
use Rattle.std.specs.Prelude.{ℕ, ◌≤◌, ◌≡◌, Bool, true, false, ◌&&◌, List, [], ◌∷◌, ◌++◌, map, leb, length}
use Rattle.refusal.specs.Outcome.{given}
use Rattle.octets.specs.Bytes.{Bytes}
use Rattle.nearest.specs.Sorted.{Sorted}
use Rattle.content_key.specs.Key.{key_id}
use Rattle.message.specs.Values.{Message, Sized, find_node, found_nodes, find_content, found_content}
use Rattle.message.specs.Encode.{encode}
use Rattle.message.specs.Rules.{connected}
use Rattle.message.specs.Decode.{decode}
use Rattle.key_index.specs.View as index
use Rattle.key_index.specs.Calls.{is_held}
use Rattle.routing_table.specs.View.{View}
use Rattle.routing_table.specs.Rules.{◌among◌}
use Rattle.routing_table.specs.declared.Contact.{Contact}
use Rattle.routing_table.specs.declared.Entry.{Entry}
use Rattle.replies.specs.Chosen.{away_from, nearest_by, entry_record, once}
use Rattle.replies.specs.Nodes.{is_asked, own_first, nodes_fit}
use Rattle.replies.specs.Content.{no_connection, is_nearer, content_fit}
use Rattle.replies.specs.Reply.{request_of, Lent}

-- the fields of a contact are of their types: bytes, and as many as the arrays have
pub record Typed (c : Contact) : Type 0 where
  pub id : Sized 32 c.id
  pub enr : Sized 300 c.enr

-- so are our own id, every entry, and what the caller lends
pub record AllTyped (v : View) (lent : Lent) : Type 0 where
  pub node : Sized 32 v.own
  pub entries : (e : Entry) → e among v.entries → Typed e.contact
  pub own : Bytes lent.own
  pub content : Bytes lent.content
  pub connection : Sized 4 lent.connection

-- the entries that pass a test, nearest to an id first: exactly those, each once, each farther than the one before it
pub record NearestFirst (id : List ℕ) (test : Entry → Bool) (v : View) (entries : List Entry) : Type 0 where
  pub sorted : Sorted (away_from id) entries
  pub only : (e : Entry) → e among entries → (e among v.entries) × (test e ≡ true)
  pub all : (e : Entry) → e among v.entries → test e ≡ true → e among entries

-- the items of all groups, in order
unfoldable pub together : {A : Type 0} → List (List A) → List A
together [] = []
together (g ∷ gs) = g ++ together gs

-- a group that is followed by another is full: the first item of the next one would not have fitted
abbrev pub Full : {A : Type 0} → (List A → Bool) → List A → List A → Type 0
Full fits g [] = ⊥
Full fits g (a ∷ rest) = fits (g ++ a ∷ []) ≡ false

-- the reply to a FindNode
pub record NodesSent (v : View) (own distances : List ℕ) (messages : List Message) : Type 0 where
  pub groups : List (List (List ℕ))
  -- the total is the number of messages, in each of them
  pub numbered : messages ≡ map (found_nodes (length messages)) groups
  -- all records of the reply, in order: our own if 0 is asked for, then those of the entries whose log distance is asked for, nearest to us
  -- first; of equal ones only the first
  pub nearest : NearestFirst v.own (is_asked v distances) v (nearest_by v.own (is_asked v distances) v)
  pub records : together groups ≡ once (own_first own distances ++ map entry_record (nearest_by v.own (is_asked v distances) v))
  -- each message has at most 32 records and 1,280 bytes
  pub fit : (g : List (List ℕ)) → g among groups → nodes_fit g ≡ true
  -- each but the last is full
  pub full : (front back : List (List (List ℕ))) (g h : List (List ℕ)) → groups ≡ front ++ g ∷ h ∷ back → Full nodes_fit g h
  -- one message at least, and 33 at most
  pub least : 1 ≤ length messages
  pub most : length messages ≤ 33

-- as many of some records as one message holds, in order, none passed over
pub record AsManyAsFit (records sent : List (List ℕ)) : Type 0 where
  pub left : List (List ℕ)
  pub split : records ≡ sent ++ left
  pub fit : content_fit sent ≡ true
  pub more : (r : List ℕ) (rest : List (List ℕ)) → left ≡ r ∷ rest → content_fit (sent ++ r ∷ []) ≡ false

-- the message of a reply to a FindContent for a key that is not held, whose id this is: the records of the entries nearer to it than we are,
-- nearest first, of equal ones only the first, as many as fit
pub record NearerSent (v : View) (id : List ℕ) (message : Message) : Type 0 where
  pub sent : List (List ℕ)
  pub is : message ≡ found_content no_connection sent []
  pub nearest : NearestFirst id (is_nearer v id) v (nearest_by id (is_nearer v id) v)
  pub as_many : AsManyAsFit (once (map entry_record (nearest_by id (is_nearer v id) v))) sent

-- the messages of a reply to a FindContent for a key that is held: the content that is lent, or else the connection id
pub data HeldSent (content connection : List ℕ) : List Message → Type 0 where
  by_content : 1 ≤ length content → length content ≤ 1267 → HeldSent content connection (found_content no_connection [] content ∷ [])
  by_connection : (leb 1 (length content) && leb (length content) 1267) ≡ false → connected connection ≡ true
      → HeldSent content connection (found_content connection [] [] ∷ [])

-- the messages of a reply to any request
pub data Sent (held : index.View) (v : View) (lent : Lent) : Message → List Message → Type 0 where
  nodes : {distances : List ℕ} {messages : List Message} → NodesSent v lent.own distances messages
      → Sent held v lent (find_node distances) messages
  known : {key : List ℕ} {messages : List Message} → is_held key held ≡ true → HeldSent lent.content lent.connection messages
      → Sent held v lent (find_content key) messages
  nearer : {key : List ℕ} {message : Message} → is_held key held ≡ false → NearerSent v (key_id key) message
      → Sent held v lent (find_content key) (message ∷ [])

-- a reply to some bytes: they are a request, these messages are due to it, and each of them is read as it was sent
pub record ReplySent (held : index.View) (v : View) (lent : Lent) (message : List ℕ) (messages : List Message) : Type 0 where
  pub request : Message
  pub asked : request_of message ≡ given request
  pub sent : Sent held v lent request messages
  pub read : (m : Message) → m among messages → decode (encode m) ≡ given m
