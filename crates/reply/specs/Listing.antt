-- The keys of an index, with no node id and no cap: a reply to a message looks at no more of it.
use Rattle.std.specs.Prelude.{ℕ, List, []}
use Rattle.key_index.specs.View as keys

abbrev pub listing : List ℕ → ℕ → keys.View
listing bytes count = keys.view_of [] [] bytes count
