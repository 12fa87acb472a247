-- Document 01's cases "on each side of the line" that are marked (P), as one list of values. Since document 02's request 3 content that ends
-- early, as c1, gets 16, and acceptable content gives its payload's start and length.
use Rattle.std.specs.Prelude.{ℕ, List, [], ◌∷◌, ◌++◌, replicate}
use Rattle.refusal.specs.Outcome.{Outcome, given, refused}
use Rattle.octets.specs.Bytes.{le_bytes}
use Rattle.content_key.specs.Key.{content_id_of}
use Rattle.rlp.specs.Content.{place, content_of}
use Rattle.rlp.specs.declared.Payload.{Payload}
use Rattle.message.specs.Values.{Message, find_node, found_nodes, find_content}
use Rattle.message.specs.Decode.{decode}

-- an input, and what it comes to: bytes as a key and its id, bytes as content and its payload's place, bytes as a message
pub data Example : Type 0 where
  id : List ℕ → Outcome (List ℕ) → Example
  content : List ℕ → Outcome Payload → Example
  message : List ℕ → Outcome Message → Example

-- the example with what its input comes to, in place of what is expected
abbrev pub computed : Example → Example
computed (id key expected) = id key (content_id_of key)
computed (content bytes expected) = content bytes (content_of bytes)
computed (message bytes expected) = message bytes (decode bytes)

-- the keys of a block's body and receipts
abbrev pub body : ℕ → List ℕ
body number = 0 ∷ le_bytes 8 number

abbrev pub receipts : ℕ → List ℕ
receipts number = 1 ∷ le_bytes 8 number

-- content that is accepted, with the start and the length of its payload
abbrev pub accepted : List ℕ → ℕ → ℕ → Example
accepted bytes start len = content bytes (given (place start len))

unfoldable pub examples : List Example
examples =
    -- receipts of 12,345,678: 61 4e 3d, 28 zero bytes, 01
    id (receipts 12_345_678) (given (0x61 ∷ 0x4e ∷ 0x3d ∷ replicate 28 0 ++ (1 ∷ [])))
    -- body of 65,535: ff ff, 30 zeros
    ∷ id (body 65_535) (given (0xff ∷ 0xff ∷ replicate 30 0))
    -- body of 65,536: 00 00 80, 29 zeros
    ∷ id (body 65_536) (given (0 ∷ 0 ∷ 0x80 ∷ replicate 29 0))
    -- receipts of the largest number: eight ff, 23 zeros, 01
    ∷ id (receipts 18_446_744_073_709_551_615) (given (replicate 8 0xff ++ replicate 23 0 ++ (1 ∷ [])))
    -- content c0: accepted
    ∷ accepted (0xc0 ∷ []) 1 0
    -- c1: 16
    ∷ content (0xc1 ∷ []) (refused 16)
    -- f800 and f837 with 55 bytes after it: 9
    ∷ content (0xf8 ∷ 0 ∷ []) (refused 9)
    ∷ content (0xf8 ∷ 0x37 ∷ replicate 55 0) (refused 9)
    -- f838 with 56 bytes: accepted
    ∷ accepted (0xf8 ∷ 0x38 ∷ replicate 56 0) 2 56
    -- 05 04000000 and a good key: accepted
    ∷ message (5 ∷ 4 ∷ 0 ∷ 0 ∷ 0 ∷ receipts 12_345_678) (given (find_content (receipts 12_345_678)))
    -- with 05000000: 4
    ∷ message (5 ∷ 5 ∷ 0 ∷ 0 ∷ 0 ∷ receipts 12_345_678) (refused 4)
    -- 03 04000000: no distances
    ∷ message (3 ∷ 4 ∷ 0 ∷ 0 ∷ 0 ∷ []) (given (find_node []))
    -- 03 04000000 03 03: 6
    ∷ message (3 ∷ 4 ∷ 0 ∷ 0 ∷ 0 ∷ 3 ∷ 3 ∷ []) (refused 6)
    -- 04 01 05000000: accepted
    ∷ message (4 ∷ 1 ∷ 5 ∷ 0 ∷ 0 ∷ 0 ∷ []) (given (found_nodes 1 []))
    -- with total 00: 6
    ∷ message (4 ∷ 0 ∷ 5 ∷ 0 ∷ 0 ∷ 0 ∷ []) (refused 6)
    -- 09 00000000 08000000: 6
    ∷ message (9 ∷ 0 ∷ 0 ∷ 0 ∷ 0 ∷ 8 ∷ 0 ∷ 0 ∷ 0 ∷ []) (refused 6)
    ∷ []
