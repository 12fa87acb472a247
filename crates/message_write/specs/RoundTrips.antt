-- The round trips of the code: what a write call leaves behind is read as the values handed in, and what reading accepts is written again, from
-- the answer alone, as the very bytes.
use Rattle.std.specs.Prelude.{ℕ, ◌≤◌, ◌≡◌, Result, Ok, Err, List, length, take}
use Rattle.std.proofs.Math.Option.{Option, some}
use Rattle.refusal.specs.Says.{says_of}
use Rattle.refusal.specs.Outcome.{Outcome, given, refusal}
use Rattle.message.specs.Values.{Message, find_node, found_nodes, found_content, store}
use Rattle.message.specs.Encode.{encode}
use Rattle.message.specs.Decode.{decode}
use Rattle.message.specs.Reading.{part_of}
use Rattle.refusal.specs.declared.Refusal.{Refusal}
use Rattle.message.specs.declared.Places.{Places}
use Rattle.message.specs.declared.Reading.{Reading}
use Rattle.message.specs.declared.Reading.TheVariants.{Ping, Pong, FindNode, FoundNodes, FindContent, FoundContent, Offer, Accept, Store}
use Rattle.message_write.specs.Kinds.{probe_of, key_message_of}
use Rattle.message_write.specs.Lent.{lent}
use Rattle.message_write.specs.Write.{bytes_for, bytes_for_lent}
use Rattle.message_write.specs.declared.Probe.{Probe}
use Rattle.message_write.specs.declared.KeyMessage.{KeyMessage}

-- the first n bytes of the buffer are the message, and are read as its values
pub record WrittenBack (m : Message) (n : ℕ) (after : List ℕ) : Type 0 where
  pub inside : n ≤ length after
  pub bytes : take n after ≡ encode m
  pub read : decode (take n after) ≡ given m

-- the same for a message of records that are lent: there are such records, and the message is read back with them
pub record LentBack (make : List (List ℕ) → Message) (o : Option (List (List ℕ))) (n : ℕ) (after : List ℕ) : Type 0 where
  pub records : List (List ℕ)
  pub lent : o ≡ some records
  pub back : WrittenBack (make records) n after

-- the records that an answer reports, lent by their places in the bytes that were read
abbrev pub lent_of : List ℕ → Places → Option (List (List ℕ))
lent_of s places = lent s (take places.count places.starts) (take places.count places.lens)

-- what the write call of a message comes to, handed the fields of an answer for those bytes, in a buffer of this length
abbrev pub rewritten_as : List ℕ → ℕ → Reading → Outcome (List ℕ)
rewritten_as s room (Ping radius) = bytes_for (probe_of Probe.Ping radius) room
rewritten_as s room (Pong radius) = bytes_for (probe_of Probe.Pong radius) room
rewritten_as s room (FindNode distances) = bytes_for (find_node (part_of s distances)) room
rewritten_as s room (FoundNodes total records) = bytes_for_lent (found_nodes total) (lent_of s records) room
rewritten_as s room (FindContent key) = bytes_for (key_message_of KeyMessage.FindContent (part_of s key)) room
rewritten_as s room (FoundContent connection records content) =
    bytes_for_lent (λ (rs : List (List ℕ)). found_content connection rs (part_of s content)) (lent_of s records) room
rewritten_as s room (Offer key) = bytes_for (key_message_of KeyMessage.Offer (part_of s key)) room
rewritten_as s room (Accept key) = bytes_for (key_message_of KeyMessage.Accept (part_of s key)) room
rewritten_as s room (Store connection content) = bytes_for (store connection (part_of s content)) room

abbrev pub rewritten : List ℕ → Result Reading Refusal → ℕ → Outcome (List ℕ)
rewritten s (Ok a) room = rewritten_as s room a
rewritten s (Err why) room = refusal (says_of why)
