-- What the rules and the bytes of the two messages with records come to, once the records that are lent have their answer. Assumes nothing.
use Prim.Native.Nat.{ℕ, ◌+◌, ◌≤◌, ◌<◌}
use mathlib.Core.Path.{◌≡◌, refl, sym, ap, ◌∙◌}
use mathlib.Core.Bool.{Bool, cond, ◌&&◌, and_comm}
use mathlib.Core.List.{List, [], ◌∷◌, ◌++◌, append-nil}
use mathlib.Core.Option.{Option, some, none}
use lib.Dec.{leb, ltb}
use lib.ListN.{length}
use borrow.Author.Tests.{le-leb, lt-leb, lt-ltb}
use Rattle.std.specs.Prelude.{Ok, Err}
use Rattle.refusal.specs.Says.{says_of}
use Rattle.refusal.specs.Outcome.{Outcome, given, refused, refusal}
use Rattle.refusal.specs.declared.Refusal.{Refusal}
use Rattle.message.specs.Values.{Message, found_nodes, found_content}
use Rattle.message.specs.Encode.{offset, list_bytes, encode}
use Rattle.message.specs.Rules.{one, present, connected, good_records, ruled, rules_of}
use Rattle.message.specs.Decode.{map_some, ruled_or4}
use Rattle.message.specs.Reading.{records_of_places}
use Rattle.message.specs.declared.Places.{Places}
use Rattle.message_rules.specs.Things.{things_of}
use Rattle.message_rules.proofs.Places.{records_length}
use Rattle.message_rules.proofs.Present.{things_three}
use Rattle.message_rules.proofs.Judged.{judged_refused, judged_tested}
use Rattle.message_write.specs.Lent.{lent, LentTo}
use Rattle.message_write.specs.Write.{fitting, ruled_bytes, bytes_for_lent}

-- a message of records that are lent is ruled as one that is read
lent_ruled : (f : List (List ℕ) → Message) (o : Option (List (List ℕ))) (room : ℕ) → bytes_for_lent f o room ≡ ruled_bytes (ruled_or4 (map_some f o)) room
lent_ruled f none room = refl
lent_ruled f (some rs) room = refl

-- records that are lent, and their answer
module _ (s starts lens : List ℕ) where
  -- a message of records, whose rules are those of the records and one test more
  module _ (f : List (List ℕ) → Message) (more : List (List ℕ) → Bool)
      (rules : (rs : List (List ℕ)) → rules_of (f rs) ≡ ruled (leb (length rs) 32) (good_records rs && more rs) (f rs)) (room : ℕ) where
    found_refused : (why : Refusal) → LentTo s starts lens (Err why) → bytes_for_lent f (lent s starts lens) room ≡ refusal (says_of why)
    found_refused why l =
        lent_ruled f (lent s starts lens) room
        ∙ ap (λ (m : Outcome Message). ruled_bytes m room) (judged_refused f more rules (lent s starts lens) (says_of why) l.value)

    found_tested : (p : Places) → LentTo s starts lens (Ok p)
        → bytes_for_lent f (lent s starts lens) room ≡ ruled_bytes (cond (more (records_of_places s p)) (given (f (records_of_places s p))) (refused 6)) room
    found_tested p l =
        lent_ruled f (lent s starts lens) room
        ∙ ap (λ (m : Outcome Message). ruled_bytes m room) (judged_tested f more rules (lent s starts lens) (records_of_places s p) l.value)

  -- FoundNodes
  module _ (total room : ℕ) where
    nodes_rules : (rs : List (List ℕ)) → rules_of (found_nodes total rs) ≡ ruled (leb (length rs) 32) (good_records rs && ltb 0 total) (found_nodes total rs)
    unfolding rules_of
    nodes_rules rs = ap (λ (b : Bool). ruled (leb (length rs) 32) b (found_nodes total rs)) (and_comm (ltb 0 total) (good_records rs))

    pub nodes_refused : (why : Refusal) → LentTo s starts lens (Err why) → bytes_for_lent (found_nodes total) (lent s starts lens) room ≡ refusal (says_of why)
    nodes_refused = found_refused (found_nodes total) (λ (rs : List (List ℕ)). ltb 0 total) nodes_rules room

    module _ (p : Places) (l : LentTo s starts lens (Ok p)) where
      nodes_tested : bytes_for_lent (found_nodes total) (lent s starts lens) room
          ≡ ruled_bytes (cond (ltb 0 total) (given (found_nodes total (records_of_places s p))) (refused 6)) room
      nodes_tested = found_tested (found_nodes total) (λ (rs : List (List ℕ)). ltb 0 total) nodes_rules room p l

      pub nodes_none : total ≡ 0 → bytes_for_lent (found_nodes total) (lent s starts lens) room ≡ refused 6
      nodes_none z = nodes_tested ∙ ap (λ (n : ℕ). ruled_bytes (cond (ltb 0 n) (given (found_nodes total (records_of_places s p))) (refused 6)) room) z

      pub nodes_good : 0 < total → (head : List ℕ) (t : ℕ) → head ≡ 4 ∷ t ∷ offset 5 → t ≡ total
          → bytes_for_lent (found_nodes total) (lent s starts lens) room ≡ fitting (head ++ list_bytes (records_of_places s p) ++ []) room
      unfolding encode
      nodes_good some-total head t h q =
          nodes_tested
          ∙ rw (lt-ltb 0 total some-total, h, q)
          (ap (λ (b : List ℕ). fitting b room) (sym (append-nil (4 ∷ total ∷ (offset 5 ++ list_bytes (records_of_places s p))))))

  -- FoundContent
  module _ (connection content : List ℕ) (room : ℕ) where
    abbrev made : List (List ℕ) → Message
    made rs = found_content connection rs content

    abbrev alone : List (List ℕ) → Bool
    alone rs = leb (one (connected connection) + one (present rs) + one (present content)) 1

    content_rules : (rs : List (List ℕ)) → rules_of (made rs) ≡ ruled (leb (length rs) 32) (good_records rs && alone rs) (made rs)
    unfolding rules_of
    content_rules rs = refl

    pub content_refused : (why : Refusal) → LentTo s starts lens (Err why) → bytes_for_lent made (lent s starts lens) room ≡ refusal (says_of why)
    content_refused = found_refused made alone content_rules room

    module _ (p : Places) (l : LentTo s starts lens (Ok p)) (n : ℕ) (is : n ≡ things_of connection p.count (length content)) where
      counted : one (connected connection) + one (present (records_of_places s p)) + one (present content) ≡ n
      counted =
          things_three connection (records_of_places s p) content
          ∙ ap (λ (k : ℕ). things_of connection k (length content)) (records_length s p.starts p.lens p.count)
          ∙ sym is

      content_tested : bytes_for_lent made (lent s starts lens) room ≡ ruled_bytes (cond (leb n 1) (given (made (records_of_places s p))) (refused 6)) room
      content_tested =
          found_tested made alone content_rules room p l
          ∙ ap (λ (k : ℕ). ruled_bytes (cond (leb k 1) (given (made (records_of_places s p))) (refused 6)) room) counted

      pub content_bad : 1 < n → bytes_for_lent made (lent s starts lens) room ≡ refused 6
      content_bad h = content_tested ∙ rw (lt-leb n 1 h)

      pub content_good : n ≤ 1 → (size : ℕ) → size ≡ length (list_bytes (records_of_places s p))
          → (head : List ℕ) → head ≡ 6 ∷ (connection ++ offset 12 ++ offset (12 + size))
          → bytes_for_lent made (lent s starts lens) room ≡ fitting (head ++ list_bytes (records_of_places s p) ++ content) room
      unfolding encode
      content_good h size long head as-made = content_tested ∙ rw (le-leb n 1 h, as-made, long)
