-- The saved form of an index ("saved shelf" in document 01): lines of lower-case hexadecimal, one frame a line, each ended by a line feed.
-- There are two kinds, which differ in their first line and in how many keys they list at most.
use Rattle.std.specs.Prelude.{ℕ, ◌+◌, List, [], ◌∷◌, ◌++◌, length}
use Rattle.octets.specs.Bytes.{le_bytes}
use Rattle.hexadecimal.specs.Digits.{text_of}
use Rattle.key_index.specs.View.{key_limit, View}

-- a kind: the byte that its first line starts with, how many bytes the number of keys has there, and how many keys it lists at most
pub record Kind : Type 0 where
  pub mark : ℕ
  pub width : ℕ
  pub limit : ℕ

-- kind 01, that of document 01: it is still read, by its own rules
abbrev pub kind01 : Kind
kind01 = record { mark = 0x01; width = 1; limit = 240 }

-- kind 11, that of document 02's request 6: it is read, and the only one that is written
abbrev pub kind11 : Kind
kind11 = record { mark = 0x11; width = 2; limit = key_limit }

-- a frame's line
abbrev pub line_of : List ℕ → List ℕ
line_of frame = text_of frame ++ (10 ∷ [])

-- the first frame: the mark, the node id, the cap (heaviest byte first), and the number of keys, lightest byte first
abbrev pub head_frame : Kind → List ℕ → List ℕ → ℕ → List ℕ
head_frame kind node cap count = kind.mark ∷ (node ++ cap ++ le_bytes kind.width count)

-- how many bytes it has
abbrev pub head_size : Kind → ℕ
head_size kind = 65 + kind.width

-- the first line
abbrev pub header_of : Kind → View → List ℕ
header_of kind v = line_of (head_frame kind v.node v.cap (length v.keys))

-- then a line for each key: 02 and the key
unfoldable pub key_lines : List (List ℕ) → List ℕ
key_lines [] = []
key_lines (k ∷ ks) = line_of (2 ∷ k) ++ key_lines ks

-- the form of a kind
unfoldable pub form_of : Kind → View → List ℕ
form_of kind v = header_of kind v ++ key_lines v.keys

-- what saving writes
abbrev pub snapshot_of : View → List ℕ
snapshot_of v = form_of kind11 v
