-- Acceptable content, by documents 01 and 02: one RLP list that fills all its bytes, with the shortest length form; where its payload
-- stands; and which content ends early. Only this outer layer is examined.
use Rattle.std.specs.Prelude.{ℕ, ◌+◌, ◌-◌, cond, List, [], ◌∷◌, eqb, leb, ltb, length, get_or, take}
use Rattle.refusal.specs.Outcome.{Outcome, given, refused}
use Rattle.octets.specs.Bytes.{be}
use Rattle.rlp.specs.declared.Payload.{Payload}

-- a payload of `len` bytes that starts at index `start`
abbrev pub place : ℕ → ℕ → Payload
place start len = record { start = start; len = len }

-- What content begins with: `Wrong`, no header of a list in the shortest form; `Cut`, one that ends before it is whole; or `Whole`, with the
-- place of its payload.
pub data Header : Type 0 where
  Wrong : Header
  Cut : Header
  Whole : Payload → Header

-- what the header alone says of content: 9 where it is wrong, 16 where it is cut, else the payload's place
abbrev pub begun : Header → Outcome Payload
begun Wrong = refused 9
begun Cut = refused 16
begun (Whole p) = given p

-- after a first byte that asks for them come k length bytes, heaviest first: cut where none is there; wrong where the first is zero; cut where
-- some are missing; wrong where the length is not over 55
unfoldable pub long_header : ℕ → List ℕ → Header
long_header k rest =
    cond (eqb (length rest) 0) Cut
    (cond (eqb (get_or rest 0 0) 0) Wrong
    (cond (ltb (length rest) k) Cut
    (cond (leb (be (take k rest)) 55) Wrong
    (Whole (place (1 + k) (be (take k rest)))))))

-- a first byte c0 to f7 gives the payload's length less c0; f8 to ff is followed by 1 to 8 length bytes
unfoldable pub header_in : List ℕ → Header
header_in [] = Wrong
header_in (b ∷ rest) =
    cond (ltb b 192) Wrong
    (cond (leb b 247) (Whole (place 1 (b - 192)))
    (long_header (b - 247) rest))

-- a whole header and n bytes after it: 16 where the payload runs past the end, 9 where bytes follow it
abbrev pub filled : Payload → ℕ → Outcome Payload
filled p n = cond (ltb n p.len) (refused 16) (cond (ltb p.len n) (refused 9) (given p))

-- content of n bytes, by its header
abbrev pub content_by : ℕ → Header → Outcome Payload
content_by n Wrong = refused 9
content_by n Cut = refused 16
content_by n (Whole p) = filled p (n - p.start)

-- the payload's place in acceptable content; 16 where the content ends early; else 9
unfoldable pub content_of : List ℕ → Outcome Payload
content_of s = content_by (length s) (header_in s)
