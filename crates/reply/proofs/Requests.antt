-- The tests of a reply in their order: the index and the table, then the message up to its type. Assumes nothing.
use Prim.Native.Nat.{ℕ, ◌≤◌, ◌<◌}
use native.Mathlib.Omega.{arith}
use mathlib.Core.Path.{◌≡◌, refl, sym, ap, ◌∙◌}
use mathlib.Core.Bool.{Bool, true, false, cond, ◌&&◌, ◌||◌}
use mathlib.Core.List.{List, [], ◌∷◌}
use lib.Dec.{eqb, leb}
use lib.ListN.{length, get_or}
use borrow.Author.Tests.{lt-ltb, le-ltb}
use Rattle.std.specs.Prelude.{Option, Some, None, Result, Ok}
use Rattle.refusal.specs.declared.Refusal.{Refusal}
use Rattle.refusal.specs.Outcome.{Outcome, given, refusal, refused, map_outcome}
use Rattle.refusal.proofs.Outcomes.{given_not}
use Rattle.octets.specs.Equal.{same_bytes}
use Rattle.octets.proofs.Tests.{both}
use Rattle.content_key.specs.Key.{selector_of, key_of}
use Rattle.message.specs.Values.{Message, ping, pong, find_node, found_nodes, find_content, found_content, offer, accept, store}
use Rattle.message.specs.Rules.{rules_of}
use Rattle.message.specs.Decode.{decode}
use Rattle.message.specs.Reading.{part_at, values_of, reading_of, ReadTo}
use Rattle.message.specs.declared.Part.{Part}
use Rattle.message.specs.declared.Reading.{Reading}
use Rattle.message.specs.declared.Reading.TheVariants.{Ping, Pong, FindNode, FoundNodes, FindContent, FoundContent, Offer, Accept, Store}
use Rattle.message.proofs.Messages.{accepted}
use Rattle.key_index.specs.View as keys
use Rattle.key_index.specs.Good as rules
use Rattle.routing_table.specs.View.{View}
use Rattle.routing_table.specs.Good.{good}
use Rattle.routing_table.specs.Survey.{survey_of}
use Rattle.routing_table.specs.declared.Facts.{Facts}
use Rattle.routing_table.proofs.Looked.{survey_none, survey_good, survey_facts}
use Rattle.replies.specs.Content.{content_reply}
use Rattle.reply.specs.Listing.{listing}
use Rattle.replies.specs.Reply.{request_of, Lent, reply_to, reply_to_request, agree, reply_of}

-- whether a table is good and of a node, by what the code asks
module _ (v : View) (node : List ℕ) (s : Option Facts) (is : s ≡ survey_of v node) where
  pub of_none : s ≡ None → (r : Bool) → r ≡ false → r ≡ (good v && same_bytes v.own node)
  of_none n r q = q ∙ sym (ap (λ (t : Bool). t && same_bytes v.own node) (survey_none v node s is n))

  pub of_some : (f : Facts) → s ≡ Some f → (r : Bool) → r ≡ f.own → r ≡ (good v && same_bytes v.own node)
  of_some f g r q =
      q ∙ ap (λ (x : Facts). x.own) (survey_facts v node s is g) ∙ sym (ap (λ (t : Bool). t && same_bytes v.own node) (survey_good v node s is g))

-- whether index and table agree, by what the code asks
module _ (limit : ℕ) (held : keys.View) (v : View) (i : Bool) (ins : i ≡ rules.good limit held) where
  pub agree_index : i ≡ false → (r : Bool) → r ≡ false → r ≡ agree limit held v
  agree_index e r q = q ∙ sym (ap (λ (t : Bool). t && good v && same_bytes v.own held.node) (sym ins ∙ e))

  pub agree_known : i ≡ true → agree limit held v ≡ (good v && same_bytes v.own held.node)
  agree_known e = ap (λ (t : Bool). t && good v && same_bytes v.own held.node) (sym ins ∙ e)

-- what bytes come to as a request
empty_request : (m : List ℕ) → length m ≡ 0 → request_of m ≡ refused 1
unfolding request_of
empty_request [] h = refl
empty_request (x ∷ m) h = absurd (omega arith)

long_request : (m : List ℕ) → 1280 < length m → request_of m ≡ refused 2
unfolding request_of
long_request [] h = absurd (omega arith)
long_request (x ∷ m) h = rw (lt-ltb 1280 (length (x ∷ m)) h)

other_request : (m : List ℕ) → 1 ≤ length m → length m ≤ 1280 → (eqb (get_or m 0 0) 3 || eqb (get_or m 0 0) 5) ≡ false → request_of m ≡ refused 3
unfolding request_of
other_request [] some short e = absurd (omega arith)
other_request (x ∷ m) some short e = rw (le-ltb 1280 (length (x ∷ m)) short, e)

true_request : (m : List ℕ) → 1 ≤ length m → length m ≤ 1280 → (eqb (get_or m 0 0) 3 || eqb (get_or m 0 0) 5) ≡ true → request_of m ≡ decode m
unfolding request_of
true_request [] some short e = absurd (omega arith)
true_request (x ∷ m) some short e = rw (le-ltb 1280 (length (x ∷ m)) short, e)

-- what a reply comes to, test by test
module _ (limit : ℕ) (held : keys.View) (v : View) (lent : Lent) (message : List ℕ) (a : Bool) (is : a ≡ agree limit held v) where
  pub reply_apart : a ≡ false → reply_of limit held v lent message ≡ refused 0
  unfolding reply_of
  reply_apart e = ap (λ (t : Bool). cond t (reply_to_request held v lent (request_of message)) (refused 0)) (sym is ∙ e)

  module _ (e : a ≡ true) where
    asks : reply_of limit held v lent message ≡ reply_to_request held v lent (request_of message)
    unfolding reply_of
    asks = ap (λ (t : Bool). cond t (reply_to_request held v lent (request_of message)) (refused 0)) (sym is ∙ e)

    pub reply_empty : length message ≡ 0 → reply_of limit held v lent message ≡ refused 1
    reply_empty h = asks ∙ ap (reply_to_request held v lent) (empty_request message h)

    pub reply_long : 1280 < length message → reply_of limit held v lent message ≡ refused 2
    reply_long h = asks ∙ ap (reply_to_request held v lent) (long_request message h)

    module _ (some : 1 ≤ length message) (short : length message ≤ 1280) (t : Bool) (ts : t ≡ (eqb (get_or message 0 0) 3 || eqb (get_or message 0 0) 5)) where
      pub reply_other : t ≡ false → reply_of limit held v lent message ≡ refused 3
      reply_other q = asks ∙ ap (reply_to_request held v lent) (other_request message some short (sym ts ∙ q))

      pub reply_asked : t ≡ true → reply_of limit held v lent message ≡ reply_to_request held v lent (decode message)
      reply_asked q = asks ∙ ap (reply_to_request held v lent) (true_request message some short (sym ts ∙ q))

-- where index and table agree, the table is good
pub table_good : (limit : ℕ) (held : keys.View) (v : View) → agree limit held v ≡ true → good v ≡ true
table_good limit held v e = (both (rules.good limit held) (good v) (both (rules.good limit held && good v) (same_bytes v.own held.node) e).0).1

-- a reply looks at no more of an index than its keys
pub listing_alone : (node cap bytes : List ℕ) (count : ℕ) (v : View) (lent : Lent) (o : Outcome Message)
    → reply_to_request (keys.view_of node cap bytes count) v lent o ≡ reply_to_request (listing bytes count) v lent o
unfolding content_reply
listing_alone node cap bytes count v lent (given (find_node distances)) = refl
listing_alone node cap bytes count v lent (given (find_content key)) = refl
listing_alone node cap bytes count v lent (given (ping radius)) = refl
listing_alone node cap bytes count v lent (given (pong radius)) = refl
listing_alone node cap bytes count v lent (given (found_nodes total records)) = refl
listing_alone node cap bytes count v lent (given (found_content connection records content)) = refl
listing_alone node cap bytes count v lent (given (offer key)) = refl
listing_alone node cap bytes count v lent (given (accept key)) = refl
listing_alone node cap bytes count v lent (given (store connection content)) = refl
listing_alone node cap bytes count v lent (refusal says) = refl

-- what a message that was read draws
module _ (held : keys.View) (v : View) (lent : Lent) (s : List ℕ) (r : Result Reading Refusal) (t : ReadTo (decode s) s r) where
  pub answered_as : (a : Reading) → r ≡ Ok a → reply_to_request held v lent (decode s) ≡ reply_to held v lent (values_of s a)
  answered_as a e = ap (reply_to_request held v lent) (sym t.value ∙ ap (reading_of s) e)

  -- all but two are no requests
  pub answered_other : (a : Reading) → r ≡ Ok a → ((part : Part) → a ≡ FindNode part → ⊥) → ((part : Part) → a ≡ FindContent part → ⊥)
      → reply_to_request held v lent (decode s) ≡ refused 3
  answered_other a e n k = answered_as a e ∙ other a n k
    where
      other : (a : Reading) → ((part : Part) → a ≡ FindNode part → ⊥) → ((part : Part) → a ≡ FindContent part → ⊥) → reply_to held v lent (values_of s a) ≡ refused 3
      other (FindNode part) n k = absurd (n part refl)
      other (FindContent part) n k = absurd (k part refl)
      other (Ping radius) n k = refl
      other (Pong radius) n k = refl
      other (FoundNodes total records) n k = refl
      other (FoundContent connection records content) n k = refl
      other (Offer key) n k = refl
      other (Accept key) n k = refl
      other (Store connection content) n k = refl

-- a FindContent that was read has a key
decoded_rules : (s : List ℕ) (m : Message) → decode s ≡ given m → rules_of m ≡ given m
unfolding decode
decoded_rules [] m e = given_not (sym e)
decoded_rules (k ∷ b) m e = (accepted k b m e).rules

same_key : (key : List ℕ) (m n : Message) → map_outcome (λ (k : List ℕ). m) (key_of key) ≡ given n → key_of key ≡ given key
unfolding key_of
same_key key m n e = go (eqb (length key) 9) (leb (selector_of key) 1) e
  where
    go : (t u : Bool) → map_outcome (λ (k : List ℕ). m) (cond t (cond u (given key) (refused 8)) (refused 7)) ≡ given n
        → cond t (cond u (given key) (refused 8)) (refused 7) ≡ given key
    go true true w = refl
    go true false w = given_not (sym w)
    go false u w = given_not (sym w)

pub read_key : (s : List ℕ) (r : Result Reading Refusal) → ReadTo (decode s) s r → (part : Part) → r ≡ Ok (FindContent part) → (key : List ℕ)
    → key ≡ part_at s part.start part.len → key_of key ≡ given key
unfolding rules_of
read_key s r t part e key is =
    same_key key (find_content key) (find_content key)
    (decoded_rules s (find_content key) (sym t.value ∙ ap (reading_of s) e ∙ ap (λ (k : List ℕ). given (find_content k)) (sym is)))
