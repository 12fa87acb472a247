-- `message_write::heads::nodes_head` meets its contract: its bytes are those of the offset. Assumes nothing.
use mathlib.Core.Path.{refl}
use Rattle.octets.specs.Bytes.{le_bytes}
use Rattle.message_write.proofs.heads.nodes_head.Goals as goal

pub returns : goal.returns
unfolding le_bytes
returns c = refl
