-- What the private parts of a reply ask of each other; no public contract uses it.
use Rattle.std.specs.Prelude.{ℕ, ◌+◌, ◌*◌, ◌≤◌, ◌<◌, ◌≡◌, true, List, [], ◌∷◌, map, leb, length, get_or, replicate, Result, Ok, Err}
use Rattle.std.proofs.Math.Option.{Option, some, none}
use Rattle.refusal.specs.Buffer.{written}
use Rattle.refusal.specs.Outcome.{given}
use Rattle.refusal.specs.declared.Refusal.{Refusal}
use Rattle.octets.specs.Equal.{same_bytes, all_different}
use Rattle.message.specs.Values.{Message}
use Rattle.message.specs.Encode.{joined}
use Rattle.message.specs.Rules.{one, present, connected, record_sizes}
use Rattle.message_write.specs.Lent.{lent}
use Rattle.replies.specs.Groups.{first_group, groups}
use Rattle.replies.specs.Room.{room, bytes_with}
use Rattle.replies.specs.Nodes.{nodes_fit, numbered}
use Rattle.replies.specs.Reply.{bytes_of}
use Rattle.reply_records.specs.Records.{slots, slotted, Slots}
use Rattle.reply_records.specs.declared.Records.{Records}
use Rattle.reply.specs.Answer.{in33, size_of}
use Rattle.reply.specs.declared.Messages.{Messages}
use Rattle.reply.specs.declared.groups.Group.{Group}
use Rattle.reply.specs.declared.groups.Spread.{Spread}

-- each of some lengths is at most 300
abbrev pub Small : List ℕ → Type 0
Small lens = (i : ℕ) → i < length lens → get_or lens i 0 ≤ 300

-- how many bytes a record has
abbrev pub length_of : List ℕ → ℕ
length_of r = length r

-- the first group of any records of these lengths: how many they are, and the size of a message with them
pub record First (head : ℕ) (lens : List ℕ) (r : Group) : Type 0 where
  pub small : r.size ≤ 1280
  pub inside : r.taken ≤ length lens
  pub few : r.taken ≤ 32
  pub taken : (rs : List (List ℕ)) → map length_of rs ≡ lens → r.taken ≡ length (first_group (room head) [] rs)
  pub size : (rs : List (List ℕ)) → map length_of rs ≡ lens → r.size ≡ bytes_with head (first_group (room head) [] rs)

-- all groups of any records of these lengths: how many they are, and the size of the messages together
pub record Planned (lens : List ℕ) (r : Spread) : Type 0 where
  pub count : (rs : List (List ℕ)) → map length_of rs ≡ lens → r.count ≡ length (groups (room 6) rs)
  pub size : (rs : List (List ℕ)) → map length_of rs ≡ lens → r.size ≡ 6 * r.count + (4 * length rs + length (joined rs))

-- the records at places in some bytes: none where a place is not in them
abbrev pub some_or : Option (List (List ℕ)) → List (List ℕ)
some_or none = []
some_or (some rs) = rs

abbrev pub lent_in : List ℕ → List ℕ → List ℕ → List (List ℕ)
lent_in bytes starts lens = some_or (lent bytes starts lens)

-- records that can be sent: at most 129, each of 1 to 300 bytes, no two equal
pub record Fair (rs : List (List ℕ)) : Type 0 where
  pub few : length rs ≤ 129
  pub sizes : record_sizes rs ≡ true
  pub different : all_different same_bytes rs ≡ true

-- the messages for them
abbrev pub messages_of : List (List ℕ) → List Message
messages_of rs = numbered (groups nodes_fit rs)

-- records at places in some bytes, and room in a buffer for so many messages of them
pub record Ready (bytes starts lens : List ℕ) (count room' : ℕ) : Type 0 where
  pub lends : lent bytes starts lens ≡ some (lent_in bytes starts lens)
  pub fair : Fair (lent_in bytes starts lens)
  pub number : count ≡ length (groups nodes_fit (lent_in bytes starts lens))
  pub room : length (bytes_of (messages_of (lent_in bytes starts lens))) ≤ room'

-- some messages are written: the length of each, and the whole buffer
pub record Sent (messages : List Message) (lens before after : List ℕ) : Type 0 where
  pub sizes : lens ≡ in33 (map size_of messages)
  pub buffer : after ≡ written (given (bytes_of messages)) before

-- records in slots that can be sent
abbrev pub records_in : Records → List (List ℕ)
records_in found = slotted found.bytes found.lens found.count

pub record Found (found : Records) : Type 0 where
  pub starts : found.starts ≡ slots
  pub slots : Slots found.count found.lens found.bytes
  pub fair : Fair (records_in found)

-- a connection id and content, of which one is present at most
pub record Single (connection content : List ℕ) : Type 0 where
  pub one : leb (one (connected connection) + 0 + one (present content)) 1 ≡ true
  pub small : length content ≤ 1267

-- the answer for one message
abbrev pub one_of : Result ℕ Refusal → Result Messages Refusal
one_of (Ok size) = Ok (record { count = 1; lens = size ∷ replicate 32 0 })
one_of (Err why) = Err why
