-- Reading a saved text: the view that it gives, or the first bad line, counted from 1. A line is bad where its form is broken, or an order or
-- cap rule against the lines before it; a text that ends early is bad at the line that is missing, and one that goes on after the last key
-- at that line; a line without its line feed is bad.
use Rattle.std.specs.Prelude.{ℕ, zero, suc, ◌+◌, ◌*◌, Bool, cond, ◌&&◌, List, [], ◌∷◌, eqb, leb, get_or, take, drop, Option, Some, None}
use Rattle.octets.specs.Bytes.{be, le}
use Rattle.hexadecimal.specs.Digits.{bytes_of, all_digits}
use Rattle.content_key.specs.Key.{selector_of}
use Rattle.key_index.specs.View.{View, fresh_of, with_keys}
use Rattle.key_index.specs.Good.{away_from}
use Rattle.snapshot.specs.Text.{Kind, kind01, kind11, head_size}

-- what a text gives
pub data Loading : Type 0 where
  bad_line : ℕ → Loading
  loaded : View → Loading

-- the text starts with the line of a frame of n bytes: 2 * n digits and a line feed
unfoldable pub is_frame : ℕ → List ℕ → Bool
is_frame n text = eqb (get_or text (2 * n) 0) 10 && all_digits (take (2 * n) text)

abbrev pub or_none : Option (List ℕ) → List ℕ
or_none (Some bytes) = bytes
or_none None = []

-- that frame, and the text after its line
unfoldable pub frame_of : ℕ → List ℕ → List ℕ
frame_of n text = or_none (bytes_of (take (2 * n) text))

abbrev pub after_frame : ℕ → List ℕ → List ℕ
after_frame n text = drop (2 * n + 1) text

-- the key on a line
abbrev pub key_in : List ℕ → List ℕ
key_in text = drop 1 (frame_of 10 text)

-- the text starts with a key's line: 02 and a key, its selector 0 or 1, its distance at least `from` and within the cap
unfoldable pub is_key_line : List ℕ → ℕ → ℕ → List ℕ → Bool
is_key_line node cap from text =
    is_frame 10 text
    && eqb (get_or (frame_of 10 text) 0 0) 2
    && leb (selector_of (key_in text)) 1
    && leb from (away_from node (key_in text))
    && leb (away_from node (key_in text)) cap

-- a key in front of those that follow
abbrev pub before : List ℕ → Loading → Loading
before key (bad_line line) = bad_line line
before key (loaded v) = loaded (with_keys v (key ∷ v.keys))

-- the end of the text, at this line
abbrev pub ending : View → ℕ → List ℕ → Loading
ending v line [] = loaded v
ending v line (c ∷ text) = bad_line line

-- so many key lines and then the end, the first of them at this line, its key at a distance of at least `from`
unfoldable pub keys_of : List ℕ → List ℕ → ℕ → ℕ → ℕ → List ℕ → Loading
keys_of node cap line from zero text = ending (fresh_of node cap) line text
keys_of node cap line from (suc n) text =
    cond (is_key_line node (be cap) from text)
    (before (key_in text) (keys_of node cap (suc line) (suc (away_from node (key_in text))) n (after_frame 10 text)))
    (bad_line line)

-- the parts of a first line
abbrev pub node_in : Kind → List ℕ → List ℕ
node_in kind text = take 32 (drop 1 (frame_of (head_size kind) text))

abbrev pub cap_in : Kind → List ℕ → List ℕ
cap_in kind text = take 32 (drop 33 (frame_of (head_size kind) text))

abbrev pub count_in : Kind → List ℕ → ℕ
count_in kind text = le (drop 65 (frame_of (head_size kind) text))

-- the text starts with a first line of this kind: its mark, node id, cap, and a count of at most its limit
unfoldable pub is_header : Kind → List ℕ → Bool
is_header kind text =
    is_frame (head_size kind) text
    && eqb (get_or (frame_of (head_size kind) text) 0 0) kind.mark
    && leb (count_in kind text) kind.limit

-- what a text gives as one of this kind
unfoldable pub read_as : Kind → List ℕ → Loading
read_as kind text =
    cond (is_header kind text)
    (keys_of (node_in kind text) (cap_in kind text) 2 0 (count_in kind text) (after_frame (head_size kind) text))
    (bad_line 1)

-- the kind that a text is read as: 11 where it starts with a first line of that kind, else 01
unfoldable pub kind_in : List ℕ → Kind
kind_in text = cond (is_header kind11 text) kind11 kind01

abbrev pub load_of : List ℕ → Loading
load_of text = read_as (kind_in text) text
