-- What an answer of reading stands for: the message's values, taken from the bytes that were read, and what it must report.
use Rattle.std.specs.Prelude.{ℕ, zero, suc, ◌+◌, ◌≤◌, ◌<◌, ◌≡◌, Result, Ok, List, [], ◌∷◌, ◌++◌, length, get_or, take, drop}
use Rattle.refusal.specs.Outcome.{Outcome, outcome_of, map_outcome}
use Rattle.refusal.specs.declared.Refusal.{Refusal}
use Rattle.message.specs.Values.{Message, ping, pong, find_node, found_nodes, find_content, found_content, offer, accept, store}
use Rattle.message.specs.Report.{report_of}
use Rattle.message.specs.declared.Part.{Part}
use Rattle.message.specs.declared.Places.{Places}
use Rattle.message.specs.declared.Reading.{Reading}
use Rattle.message.specs.declared.Reading.TheVariants.{Ping, Pong, FindNode, FoundNodes, FindContent, FoundContent, Offer, Accept, Store}

-- the bytes at a place
abbrev pub part_at : List ℕ → ℕ → ℕ → List ℕ
part_at s start len = take len (drop start s)

abbrev pub part_of : List ℕ → Part → List ℕ
part_of s part = part_at s part.start part.len

-- the first n records, at their places
unfoldable pub records_at : List ℕ → List ℕ → List ℕ → ℕ → List (List ℕ)
records_at s starts lens zero = []
records_at s starts lens (suc n) = records_at s starts lens n ++ (part_at s (get_or starts n 0) (get_or lens n 0) ∷ [])

abbrev pub records_of_places : List ℕ → Places → List (List ℕ)
records_of_places s places = records_at s places.starts places.lens places.count

-- the values that an answer stands for
abbrev pub values_of : List ℕ → Reading → Message
values_of s (Ping radius) = ping radius
values_of s (Pong radius) = pong radius
values_of s (FindNode distances) = find_node (part_of s distances)
values_of s (FoundNodes total records) = found_nodes total (records_of_places s records)
values_of s (FindContent key) = find_content (part_of s key)
values_of s (FoundContent connection records content) = found_content connection (records_of_places s records) (part_of s content)
values_of s (Offer key) = offer (part_of s key)
values_of s (Accept key) = accept (part_of s key)
values_of s (Store connection content) = store connection (part_of s content)

abbrev pub reading_of : List ℕ → Result Reading Refusal → Outcome Message
reading_of s r = map_outcome (values_of s) (outcome_of r)

-- a part lies in the message
abbrev pub PartInside : List ℕ → Part → Type 0
PartInside s part = part.start + part.len ≤ length s

-- there are at most 32 places, and each lies in the message
pub record PlacesInside (s : List ℕ) (places : Places) : Type 0 where
  pub few : places.count ≤ 32
  pub inside : (i : ℕ) → i < places.count → get_or places.starts i 0 + get_or places.lens i 0 ≤ length s

-- every place that an answer reports lies in the message
abbrev pub Inside : List ℕ → Reading → Type 0
Inside s (Ping radius) = Unit {0}
Inside s (Pong radius) = Unit {0}
Inside s (FindNode distances) = PartInside s distances
Inside s (FoundNodes total records) = PlacesInside s records
Inside s (FindContent key) = PartInside s key
Inside s (FoundContent connection records content) = PlacesInside s records × PartInside s content
Inside s (Offer key) = PartInside s key
Inside s (Accept key) = PartInside s key
Inside s (Store connection content) = PartInside s content

-- an answer stands for an outcome of reading some bytes: its value, every field of it, and that its places lie in the bytes
pub record ReadTo (d : Outcome Message) (s : List ℕ) (r : Result Reading Refusal) : Type 0 where
  pub value : reading_of s r ≡ d
  pub report : outcome_of r ≡ map_outcome (report_of s) d
  pub inside : (a : Reading) → r ≡ Ok a → Inside s a
