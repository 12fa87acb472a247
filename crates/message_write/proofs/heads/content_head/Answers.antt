-- `message_write::heads::content_head` meets its contract: the id stands behind the type, and both offsets behind the id. Assumes nothing.
use Prim.Native.Nat.{ℕ}
use mathlib.Core.Path.{ap₂, ◌∙◌}
use mathlib.Core.List.{List, ◌∷◌, ◌++◌}
use borrow.Author.Rules.{rules}
use Rattle.octets.specs.Bytes.{le_bytes}
use Rattle.octets.proofs.Parts.{bytes_at_all}
use Rattle.message.specs.Encode.{offset}
use Rattle.message_write.proofs.heads.content_head.Goals as goal

pub returns : goal.returns
unfolding le_bytes
returns c =
    ap₂ (λ (x y : List ℕ). 6 ∷ (x ++ offset 12 ++ y)) (bytes_at_all 4 c.args.connection (search rules))
    (bytes_at_all 4 c.offset_bytes.result (search rules) ∙ c.offset_bytes.ensures)
