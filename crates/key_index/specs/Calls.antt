-- What the calls on an index answer, over the limit: `radius` tests 0; `holds` tests 0, 7, 8.
use Rattle.std.specs.Prelude.{ℕ, Bool, cond, List}
use Rattle.refusal.specs.Outcome.{Outcome, given, refused, map_outcome}
use Rattle.octets.specs.Equal.{same_bytes, holds}
use Rattle.content_key.specs.Key.{key_of}
use Rattle.key_index.specs.View.{View}
use Rattle.key_index.specs.Good.{good, radius_of}

abbrev pub radius_for : ℕ → View → Outcome (List ℕ)
radius_for limit v = cond (good limit v) (given (radius_of limit v)) (refused 0)

-- a key is held, by its bytes
abbrev pub is_held : List ℕ → View → Bool
is_held key v = holds same_bytes key v.keys

abbrev pub holds_for : ℕ → View → List ℕ → Outcome Bool
holds_for limit v bytes =
    cond (good limit v) (map_outcome (λ (key : List ℕ). is_held key v) (key_of bytes)) (refused 0)
