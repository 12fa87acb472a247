-- `message_write::heads::store_head` meets its contract: the id stands behind the type, and the offset behind the id. Assumes nothing.
use Prim.Native.Nat.{ℕ}
use mathlib.Core.Path.{ap}
use mathlib.Core.List.{List, ◌∷◌, ◌++◌}
use borrow.Author.Rules.{rules}
use Rattle.octets.specs.Bytes.{le_bytes}
use Rattle.octets.proofs.Parts.{bytes_at_all}
use Rattle.message.specs.Encode.{offset}
use Rattle.message_write.proofs.heads.store_head.Goals as goal

pub returns : goal.returns
unfolding le_bytes
returns c = ap (λ (l : List ℕ). 9 ∷ (l ++ offset 8)) (bytes_at_all 4 c.args.connection (search rules))
