-- What a reply is: the messages that are due to the request, each of them accepted where it is read, and read as what was sent. Assumes
-- nothing.
use Prim.Native.Nat.{ℕ, ◌+◌, ◌≤◌}
use native.Mathlib.Omega.{arith}
use mathlib.Core.Path.{◌≡◌, refl, sym, ap, subst, subst⁻¹, ◌∙◌}
use mathlib.Core.Bool.{Bool, true, false, cond, ◌&&◌, ◌||◌}
use mathlib.Core.List.Memᴰ
use mathlib.Core.List.{List, [], ◌∷◌, ◌++◌, map}
use lib.Dec.{eqb, leb, ltb, lit<}
use lib.ListN.{length}
use borrow.Author.Tests.{le-leb, lt-ltb}
use Rattle.refusal.specs.Outcome.{Outcome, given, refusal, refused}
use Rattle.refusal.proofs.Outcomes.{given_not}
use Rattle.octets.specs.Bytes.{Bytes, le}
use Rattle.octets.specs.Equal.{same_bytes, all_different}
use Rattle.octets.proofs.Numbers.{bytes_at_lem, bytes_replicate}
use Rattle.octets.proofs.Tests.{both}
use Rattle.content_key.specs.Key.{selector_of, block_of, key_id}
use Rattle.content_key.proofs.Ids.{id_length, id_bytes_ok}
use Rattle.message.specs.Values.{Message, ping, pong, find_node, found_nodes, find_content, found_content, offer, accept, store, Sized, AllBytes, Formed}
use Rattle.message.specs.Encode.{encode, joined}
use Rattle.message.specs.Rules.{record_sizes, one, present, connected, rules_of}
use Rattle.message.specs.Decode.{decode}
use Rattle.message.proofs.Messages.{written_read, read_formed}
use Rattle.nearest.proofs.Lists.{among_split}
use Rattle.key_index.specs.View as index
use Rattle.key_index.specs.Good as rules
use Rattle.key_index.specs.Calls.{is_held}
use Rattle.routing_table.specs.View.{View}
use Rattle.routing_table.specs.Good.{good}
use Rattle.routing_table.specs.Rules.{◌among◌, Rules}
use Rattle.routing_table.specs.declared.Entry.{Entry}
use Rattle.routing_table.proofs.Keeps.{good_keeps}
use Rattle.replies.specs.Groups.{first_group}
use Rattle.replies.specs.Room.{bytes_with}
use Rattle.replies.specs.Chosen.{nearest_by, entry_record}
use Rattle.replies.specs.Nodes.{is_asked, own_first, nodes_fit, nodes_records, nodes_reply}
use Rattle.replies.specs.Content.{no_connection, is_nearer, content_fit, nearer_records, nearer_reply, content_reply, held_reply}
use Rattle.replies.specs.Reply.{request_of, Lent, reply_to, reply_to_request, agree, reply_of}
use Rattle.replies.specs.Laws.{AllTyped, together, HeldSent, by_content, by_connection, Sent, nodes, known, nearer, ReplySent}
use Rattle.replies.proofs.Groups.{together_append}
use Rattle.replies.proofs.Once.{Sendable, each_size, each_bytes, once_different, part_different, part_sizes, part_bytes}
use Rattle.replies.proofs.Sizes.{nodes_is, content_is, nodes_length, content_length, room_true}
use Rattle.replies.proofs.Nodes.{entry_sends, entry_bytes, nodes_each, nodes_sends, nodes_sent}
use Rattle.replies.proofs.Content.{as_many_lem, nearer_of, nearer_sent, held_so, unheld_so, held_sent}

-- records that a message may have: bytes, 1 to 300 of them, no two equal
record Fine (rs : List (List ℕ)) : Type 0 where
  bytes : AllBytes rs
  sizes : record_sizes rs ≡ true
  different : all_different same_bytes rs ≡ true

none_fine : Fine []
unfolding record_sizes all_different
none_fine = record { bytes = tt; sizes = refl; different = refl }

fine_part : (rs front g back : List (List ℕ)) → rs ≡ front ++ (g ++ back) → Fine rs → Fine g
fine_part rs front g back e f =
    record {
      bytes = part_bytes rs front g back e f.bytes;
      sizes = part_sizes rs front g back e f.sizes;
      different = part_different rs front g back e f.different;
    }

-- a message with such records is accepted, if there are not too many
nodes_accepted : (total : ℕ) (rs : List (List ℕ)) → 1 ≤ total → total ≤ 255 → nodes_fit rs ≡ true → Fine rs
    → decode (encode (found_nodes total rs)) ≡ given (found_nodes total rs)
unfolding rules_of
nodes_accepted total rs l h fit f =
    let r = room_true 6 rs (sym (nodes_is rs) ∙ fit) in
    written_read (found_nodes total rs) (omega arith, f.bytes)
    (rw (le-leb (length rs) 32 r.0, lt-ltb 0 total (omega arith), f.sizes, f.different))
    (omega (arith, nodes_length total rs))

content_accepted : (connection : List ℕ) (rs : List (List ℕ)) (content : List ℕ) → Sized 4 connection → Fine rs → Bytes content
    → length rs ≤ 32 → bytes_with 13 rs + length content ≤ 1280
    → leb (one (connected connection) + one (present rs) + one (present content)) 1 ≡ true
    → decode (encode (found_content connection rs content)) ≡ given (found_content connection rs content)
unfolding rules_of
content_accepted connection rs content c f b l h few =
    written_read (found_content connection rs content) (c, (f.bytes, b)) (rw (le-leb (length rs) 32 l, f.sizes, f.different, few))
    (omega (arith, content_length connection rs content c.1))

pub no_connection_lem : connected no_connection ≡ false
unfolding le
no_connection_lem = refl

zeros : Sized 4 no_connection
zeros = (bytes_replicate 4 0 (lit< tt), refl)

-- where one of three can be present, one is at most
first_one : (t : Bool) → leb (one t + one false + one false) 1 ≡ true
first_one true = refl
first_one false = refl

middle_one : (t : Bool) → leb (one false + one t + one false) 1 ≡ true
middle_one true = refl
middle_one false = refl

last_one : (t : Bool) → leb (one false + one false + one t) 1 ≡ true
last_one true = refl
last_one false = refl

lent_read : (content : List ℕ) → Bytes content → length content ≤ 1267
    → decode (encode (found_content no_connection [] content)) ≡ given (found_content no_connection [] content)
unfolding joined
lent_read content b h =
    content_accepted no_connection [] content zeros none_fine b (omega arith) (omega arith) (rw no_connection_lem (last_one (present content)))

named_read : (connection : List ℕ) → Sized 4 connection → decode (encode (found_content connection [] [])) ≡ given (found_content connection [] [])
unfolding joined
named_read connection c = content_accepted connection [] [] c none_fine tt (omega arith) (omega arith) (first_one (connected connection))

-- of one message
only_one : (n m : Message) → decode (encode n) ≡ given n → m among (n ∷ []) → decode (encode m) ≡ given m
only_one n m d i = subst⁻¹ (λ (x : Message). decode (encode x) ≡ given x) (Memᴰ.eq_of_singleton i) d

module _ (v : View) (lends : Lent) (keeps : Rules v) (typed : AllTyped v lends) where
  abbrev sends : (e : Entry) → e among v.entries → Sendable (entry_record e)
  sends = entry_sends v keeps typed.entries

  -- the messages of a reply to a FindNode
  pub nodes_read : (distances : List ℕ) (ms : List Message) → nodes_reply v lends.own distances ≡ given ms → (m : Message) → m among ms
      → decode (encode m) ≡ given m
  unfolding together
  nodes_read distances ms e m i =
      let records = nodes_records v lends.own distances in
      let s = nodes_sent v lends.own distances keeps typed.entries ms e typed.node in
      let all : Fine records = record {
        bytes = each_bytes records (nodes_each v lends.own distances Bytes (λ a. typed.own) (entry_bytes v keeps typed.entries));
        sizes = each_size records (nodes_sends v lends.own distances keeps typed.entries ms e);
        different = once_different (own_first lends.own distances ++ map entry_record (nearest_by v.own (is_asked v distances) v));
      } in
      let g = Memᴰ.of_map (found_nodes (length ms)) s.groups (subst (λ (l : List Message). m among l) s.numbered i) in
      let at = among_split s.groups g.1 in
      let split : records ≡ together at.0 ++ (g.0 ++ together at.1) =
      sym s.records ∙ ap together at.2 ∙ together_append at.0 (g.0 ∷ at.1) in
      subst (λ (n : Message). decode (encode n) ≡ given n) g.2
      (nodes_accepted (length ms) g.0 s.least (omega (arith, s.most)) (s.fit g.0 g.1) (fine_part records (together at.0) g.0 (together at.1) split all))

  -- the message of a reply to a FindContent, for a key that is not held
  pub nearer_read : (id : List ℕ) → decode (encode (nearer_reply v id)) ≡ given (nearer_reply v id)
  nearer_read id =
      let records = nearer_records v id in
      let sent = first_group content_fit [] records in
      let s = as_many_lem records in
      let all : Fine records = record {
        bytes = each_bytes records (λ r m. let e = nearer_of v id m in subst Bytes e.3 (entry_bytes v keeps typed.entries e.0 e.1));
        sizes = each_size records (λ r m. let e = nearer_of v id m in subst Sendable e.3 (sends e.0 e.1));
        different = once_different (map entry_record (nearest_by id (is_nearer v id) v));
      } in
      let r = room_true 13 sent (sym (content_is sent) ∙ s.fit) in
      content_accepted no_connection sent [] zeros (fine_part records [] sent s.left s.split all) tt r.0 (omega (arith, r.1))
      (rw no_connection_lem (middle_one (present sent)))

  -- and for one that is
  pub held_read : (ms : List Message) → held_reply lends.content lends.connection ≡ given ms → (m : Message) → m among ms
      → decode (encode m) ≡ given m
  held_read ms e m i = go ms (held_sent lends.content lends.connection ms e) i
    where
      go : (ns : List Message) → HeldSent lends.content lends.connection ns → m among ns → decode (encode m) ≡ given m
      go _ (by_content l h) j = only_one _ m (lent_read lends.content typed.content h) j
      go _ (by_connection p q) j = only_one _ m (named_read lends.connection typed.connection) j

  pub content_read : (held : index.View) (key : List ℕ) (ms : List Message)
      → content_reply held v lends.content lends.connection key ≡ given ms → (m : Message) → m among ms → decode (encode m) ≡ given m
  content_read held key ms e m i = go (is_held key held) refl
    where
      go : (t : Bool) → is_held key held ≡ t → decode (encode m) ≡ given m
      go true q = held_read ms (sym (held_so held v lends.content lends.connection key q) ∙ e) m i
      go false q =
          let w : ◌≡◌ {A = Outcome (List Message)} (given (nearer_reply v (key_id key) ∷ [])) (given ms) =
          sym (unheld_so held v lends.content lends.connection key q) ∙ e in
          let same : ms ≡ nearer_reply v (key_id key) ∷ [] = cc in
          only_one (nearer_reply v (key_id key)) m (nearer_read (key_id key)) (subst (λ (l : List Message). m among l) same i)

  -- the messages of a reply to any message
  pub to_read : (held : index.View) (q : Message) (ms : List Message) → reply_to held v lends q ≡ given ms → (m : Message) → m among ms
      → decode (encode m) ≡ given m
  to_read held (find_node distances) ms e m i = nodes_read distances ms e m i
  to_read held (find_content key) ms e m i = content_read held key ms e m i
  to_read held (ping radius) ms e m i = given_not (sym e)
  to_read held (pong radius) ms e m i = given_not (sym e)
  to_read held (found_nodes total records) ms e m i = given_not (sym e)
  to_read held (found_content connection records content) ms e m i = given_not (sym e)
  to_read held (offer key) ms e m i = given_not (sym e)
  to_read held (accept key) ms e m i = given_not (sym e)
  to_read held (store connection content) ms e m i = given_not (sym e)

-- the id of a key has 32 bytes
key_id_sized : (key : List ℕ) → Bytes key → Sized 32 (key_id key)
key_id_sized key b = (id_bytes_ok (selector_of key) (block_of key) (bytes_at_lem key b 0), id_length (selector_of key) (block_of key))

-- what is sent to a message
module _ (v : View) (lends : Lent) (keeps : Rules v) (typed : AllTyped v lends) (held : index.View) where
  content_sent : (key : List ℕ) → Bytes key → (ms : List Message) → content_reply held v lends.content lends.connection key ≡ given ms
      → Sent held v lends (find_content key) ms
  content_sent key b ms e = go (is_held key held) refl
    where
      go : (t : Bool) → is_held key held ≡ t → Sent held v lends (find_content key) ms
      go true q = known q (held_sent lends.content lends.connection ms (sym (held_so held v lends.content lends.connection key q) ∙ e))
      go false q =
          let w : ◌≡◌ {A = Outcome (List Message)} (given (nearer_reply v (key_id key) ∷ [])) (given ms) =
          sym (unheld_so held v lends.content lends.connection key q) ∙ e in
          let same : nearer_reply v (key_id key) ∷ [] ≡ ms = cc in
          subst (Sent held v lends (find_content key)) same (nearer q (nearer_sent v keeps (λ x m. (typed.entries x m).id) (key_id key) (key_id_sized key b)))

  to_sent : (q : Message) → Formed q → (ms : List Message) → reply_to held v lends q ≡ given ms → Sent held v lends q ms
  to_sent (find_node distances) f ms e = nodes (nodes_sent v lends.own distances keeps typed.entries ms e typed.node)
  to_sent (find_content key) f ms e = content_sent key f ms e
  to_sent (ping radius) f ms e = given_not (sym e)
  to_sent (pong radius) f ms e = given_not (sym e)
  to_sent (found_nodes total records) f ms e = given_not (sym e)
  to_sent (found_content connection records content) f ms e = given_not (sym e)
  to_sent (offer key) f ms e = given_not (sym e)
  to_sent (accept key) f ms e = given_not (sym e)
  to_sent (store connection content) f ms e = given_not (sym e)

-- the bytes of a request are read as it
request_read : (message : List ℕ) (q : Message) → request_of message ≡ given q → decode message ≡ given q
unfolding request_of
request_read [] q e = given_not (sym e)
request_read (kind ∷ body) q e = go (ltb 1280 (length (kind ∷ body))) (eqb kind 3 || eqb kind 5) e
  where
    go : (t u : Bool) → cond t (refused 2) (cond u (decode (kind ∷ body)) (refused 3)) ≡ given q → decode (kind ∷ body) ≡ given q
    go true u w = given_not (sym w)
    go false true w = w
    go false false w = given_not (sym w)

-- what a reply is, whatever the bytes
pub reply_sent : (limit : ℕ) (held : index.View) (v : View) (lends : Lent) (message : List ℕ) (ms : List Message)
    → reply_of limit held v lends message ≡ given ms → AllTyped v lends → Bytes message → ReplySent held v lends message ms
unfolding reply_of
reply_sent limit held v lends message ms e typed b = go (agree limit held v) refl (request_of message) refl e
  where
    go : (t : Bool) → agree limit held v ≡ t → (q : Outcome Message) → request_of message ≡ q
        → cond t (reply_to_request held v lends q) (refused 0) ≡ given ms → ReplySent held v lends message ms
    go false a q r w = given_not (sym w)
    go true a (refusal says) r w = given_not (sym w)
    go true a (given q) r w =
        let p = both (rules.good limit held && good v) (same_bytes v.own held.node) a in
        let g = both (rules.good limit held) (good v) p.0 in
        let keeps = good_keeps v g.1 in
        record {
          request = q;
          asked = r;
          sent = to_sent v lends keeps typed held q (read_formed message q b (request_read message q r)).0 ms w;
          read = to_read v lends keeps typed held q ms w;
        }
