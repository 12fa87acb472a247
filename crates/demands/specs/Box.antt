-- The box in the terms of `runs`: its owners, keys and calls, and how it reads keys, content and saved texts.
use Rattle.std.specs.Prelude.{ℕ, ◌≤◌, ◌≡◌, List, length}
use Rattle.std.proofs.Math.Option.{Option, none, some}
use Rattle.refusal.specs.Says.{Said, at_line}
use Rattle.refusal.specs.Outcome.{Outcome, given, refusal}
use Rattle.octets.specs.Bytes.{Bytes}
use Rattle.content_key.specs.Key.{selector_of, key_of}
use Rattle.rlp.specs.declared.Payload.{Payload}
use Rattle.runs.specs.Setting.{ViewOf}
use Rattle.key_index.specs.View.{View}
use Rattle.key_index.specs.Keys.{NineBytes}
use Rattle.key_store.specs.Store.{examine_of}
use Rattle.snapshot.specs.Load.{Loading, bad_line, loaded, load_of}

-- node id and cap ("ceiling" in document 01)
pub record Owner : Type 0 where
  pub node : List ℕ
  pub cap : List ℕ

-- of 32 bytes each
pub record ValidOwner (o : Owner) : Type 0 where
  pub node_size : length o.node ≡ 32
  pub node_bytes : Bytes o.node
  pub cap_size : length o.cap ≡ 32
  pub cap_bytes : Bytes o.cap

-- a key: nine bytes, the selector 0 or 1
pub record ValidKey (key : List ℕ) : Type 0 where
  pub nine : NineBytes key
  pub selector : selector_of key ≤ 1

-- the key bytes of a call: any bytes. The text of a call is any list.
pub record Raw : Type 0 where
  pub bytes : List ℕ
  pub each : Bytes bytes

-- what a store call brings beside the key: its content, any list, and the newest known block number, any number, another one in each call
pub record Brought : Type 0 where
  pub content : List ℕ
  pub newest : ℕ

-- the view of an index, with node id and cap put together, and taken apart again
abbrev pub grouped : View → ViewOf Owner (List ℕ)
grouped v = record { owner = record { node = v.node; cap = v.cap }; keys = v.keys }

abbrev pub spread : ViewOf Owner (List ℕ) → View
spread v = record { node = v.owner.node; cap = v.owner.cap; keys = v.keys }

-- the key that bytes are, or 7 or 8
abbrev pub key_from : Raw → Outcome (List ℕ)
key_from raw = key_of raw.bytes

-- nothing against a key whose number is at most the newest that its call brings, with acceptable content; 17, 16 or 9 against any other
abbrev pub fault_in : Outcome Payload → Option Said
fault_in (given payload) = none
fault_in (refusal says) = some says

abbrev pub fault_of : List ℕ → Brought → Option Said
fault_of key brought = fault_in (examine_of key brought.content brought.newest)

-- the view that a saved text gives, or 14 with its line
abbrev pub view_in : Loading → Outcome (ViewOf Owner (List ℕ))
view_in (bad_line line) = refusal (at_line 14 line)
view_in (loaded v) = given (grouped v)

abbrev pub text_from : List ℕ → Outcome (ViewOf Owner (List ℕ))
text_from text = view_in (load_of text)
