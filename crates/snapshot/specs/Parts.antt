-- What the parts of `reload` answer: a line's frame, the first line, a key's line, a whole text.
use Rattle.std.specs.Prelude.{ℕ, suc, ◌+◌, ◌*◌, Bool, cond, ◌&&◌, List, leb, Option, Some, None, Result, Ok, Err}
use Rattle.octets.specs.Bytes.{be}
use Rattle.distance.specs.Distance.{xor_of}
use Rattle.content_key.specs.Key.{selector_of, key_id}
use Rattle.key_index.specs.View.{view_of}
use Rattle.snapshot.specs.Text.{Kind, head_size}
use Rattle.snapshot.specs.Load.{Loading, bad_line, loaded, is_frame, frame_of, key_in, is_key_line, node_in, cap_in, count_in, is_header}
use Rattle.snapshot.specs.declared.loading.Header.{Header}

-- the frame of n bytes, where the text starts with its line
unfoldable pub frame_in : ℕ → List ℕ → Option (List ℕ)
frame_in n text = cond (is_frame n text) (Some (frame_of n text)) None

-- the least distance of a key: 0 for the first one, and over that of the one before for any other
abbrev pub lowest : Option (List ℕ) → ℕ
lowest None = 0
lowest (Some last) = suc (be last)

-- a key at this distance keeps the rules
abbrev pub key_passes : List ℕ → List ℕ → Option (List ℕ) → List ℕ → Bool
key_passes key far last cap = leb (selector_of key) 1 && leb (lowest last) (be far) && leb (be far) (be cap)

-- what a text gives as a first line of this kind, with how many bytes the line has
abbrev pub header_said : Kind → List ℕ → Header
header_said kind text =
    record { node = node_in kind text; cap = cap_in kind text; count = count_in kind text; size = 2 * head_size kind + 1 }

unfoldable pub header_from : Kind → List ℕ → Option Header
header_from kind text = cond (is_header kind text) (Some (header_said kind text)) None

-- a key's line, with the key's distance
pub record KeyLine : Type 0 where
  pub key : List ℕ
  pub far : List ℕ

-- the line of a key that was written, where its distance was answered
abbrev pub line_with : List ℕ → Option (List ℕ) → Option KeyLine
line_with key None = None
line_with key (Some far) = Some (record { key = key; far = far })

-- what a text gives as a key's line, the first one or one after a key at the distance `last`
abbrev pub key_said : List ℕ → List ℕ → KeyLine
key_said node text = record { key = key_in text; far = xor_of node (key_id (key_in text)) }

unfoldable pub key_line_from : List ℕ → List ℕ → Option (List ℕ) → List ℕ → Option KeyLine
key_line_from node cap last text = cond (is_key_line node (be cap) (lowest last) text) (Some (key_said node text)) None

-- what an answer for a whole text and its keys in an array stand for: a view, or a bad line
abbrev pub loading_of : Result Header ℕ → List ℕ → Loading
loading_of (Ok header) keys = loaded (view_of header.node header.cap keys header.count)
loading_of (Err line) keys = bad_line line
