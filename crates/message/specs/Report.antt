-- What reading reports on a message: every field of the answer, from the bytes that were read.
use Rattle.std.specs.Prelude.{ℕ, ◌+◌, ◌-◌, List, [], ◌∷◌, ◌++◌, map, reverse, length, get_or, take, drop, replicate}
use Rattle.message.specs.Values.{Message, ping, pong, find_node, found_nodes, find_content, found_content, offer, accept, store}
use Rattle.message.specs.Records.{offset_of, offsets_in}
use Rattle.message.specs.declared.Part.{Part}
use Rattle.message.specs.declared.Places.{Places}
use Rattle.message.specs.declared.Reading.{Reading}
use Rattle.message.specs.declared.Reading.TheVariants.{Ping, Pong, FindNode, FoundNodes, FindContent, FoundContent, Offer, Accept, Store}

-- the part from a place to the end
abbrev pub to_end : List ℕ → ℕ → Part
to_end s start = record { start = start; len = length s - start }

-- some numbers in 32 places, with zeros behind them
abbrev pub in32 : List ℕ → List ℕ
in32 ns = ns ++ replicate (32 - length ns) 0

-- how far it is from each number to the next one, and from the last to the end
unfoldable pub gaps : ℕ → List ℕ → List ℕ
gaps end [] = []
gaps end (a ∷ []) = (end - a) ∷ []
gaps end (a ∷ b ∷ os) = (b - a) ∷ gaps end (b ∷ os)

-- where the records start, and how long they are, by the offsets of their list, its base and its size
unfoldable pub starts_of : ℕ → List ℕ → List ℕ
starts_of base os = in32 (map (λ (o : ℕ). base + o) os)

unfoldable pub lens_of : ℕ → List ℕ → List ℕ
lens_of size os = in32 (gaps size os)

-- the records of a list at a base, by its size and its offsets
abbrev pub places_at : ℕ → ℕ → List ℕ → Places
places_at base size os = record { count = length os; starts = starts_of base os; lens = lens_of size os }

-- the records of a list that stands at a base
abbrev pub places_of : ℕ → List ℕ → Places
places_of base list = places_at base (length list) (offsets_in list)

-- where the content of FoundContent starts: its second offset, behind the type
abbrev pub content_at : List ℕ → ℕ
content_at s = 1 + offset_of (drop 9 s)

-- the report on a message of each kind
abbrev pub report_of : List ℕ → Message → Reading
report_of s (ping radius) = Ping (reverse (drop 1 s))
report_of s (pong radius) = Pong (reverse (drop 1 s))
report_of s (find_node distances) = FindNode (to_end s 5)
report_of s (found_nodes total records) = FoundNodes (get_or s 1 0) (places_of 6 (drop 6 s))
report_of s (find_content key) = FindContent (to_end s 5)
report_of s (found_content connection records content) =
    FoundContent (take 4 (drop 1 s)) (places_of 13 (take (content_at s - 13) (drop 13 s))) (to_end s (content_at s))
report_of s (offer key) = Offer (to_end s 5)
report_of s (accept key) = Accept (to_end s 5)
report_of s (store connection content) = Store (take 4 (drop 1 s)) (to_end s 9)
