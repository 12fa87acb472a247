-- What the view of any index is made of, as far as its saved form needs it; and which texts are saved forms of a view.
use Rattle.std.specs.Prelude.{ℕ, ◌≡◌, true, List, length}
use Rattle.octets.specs.Bytes.{Bytes}
use Rattle.key_index.specs.View.{View}
use Rattle.key_index.specs.Good.{good}
use Rattle.key_index.specs.Keys.{Each, NineBytes}
use Rattle.snapshot.specs.Text.{Kind, kind01, kind11, form_of}

-- a view with a node id and a cap of 32 bytes each, and keys of nine bytes each
pub record Shaped (v : View) : Type 0 where
  pub node_size : length v.node ≡ 32
  pub node_bytes : Bytes v.node
  pub cap_size : length v.cap ≡ 32
  pub cap_bytes : Bytes v.cap
  pub nine : Each NineBytes v.keys

-- a text is the form of this kind of a view that keeps the rules, with the kind's own limit
pub record Form (kind : Kind) (v : View) (text : List ℕ) : Type 0 where
  pub written : form_of kind v ≡ text
  pub shaped : Shaped v
  pub kept : good kind.limit v ≡ true

-- a text is a saved form of a view, in either kind
pub data Saved (v : View) (text : List ℕ) : Type 0 where
  as11 : Form kind11 v text → Saved v text
  as01 : Form kind01 v text → Saved v text
