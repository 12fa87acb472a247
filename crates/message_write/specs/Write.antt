-- What writing a message comes to: the rules on the values first, then 2 for more than 1,280 bytes, then 13 for a buffer that is too short.
use Rattle.std.specs.Prelude.{ℕ, cond, List, ltb, length}
use Rattle.std.proofs.Math.Option.{Option, some, none}
use Rattle.refusal.specs.Outcome.{Outcome, given, refusal, refused}
use Rattle.message.specs.Values.{Message}
use Rattle.message.specs.Encode.{encode}
use Rattle.message.specs.Rules.{rules_of}

-- bytes that fit a message and the buffer, else 2 or 13
abbrev pub fitting : List ℕ → ℕ → Outcome (List ℕ)
fitting bytes room = cond (ltb 1280 (length bytes)) (refused 2) (cond (ltb room (length bytes)) (refused 13) (given bytes))

abbrev pub ruled_bytes : Outcome Message → ℕ → Outcome (List ℕ)
ruled_bytes (given m) room = fitting (encode m) room
ruled_bytes (refusal says) room = refusal says

-- the bytes that writing these values into a buffer of this length writes, or the refusal
abbrev pub bytes_for : Message → ℕ → Outcome (List ℕ)
bytes_for m room = ruled_bytes (rules_of m) room

-- the same for values made of records that are lent, which may be none: 4
abbrev pub bytes_for_lent : (List (List ℕ) → Message) → Option (List (List ℕ)) → ℕ → Outcome (List ℕ)
bytes_for_lent make none room = refused 4
bytes_for_lent make (some rs) room = bytes_for (make rs) room
