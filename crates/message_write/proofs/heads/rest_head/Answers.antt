-- `message_write::heads::rest_head` meets its contract: its bytes are those of the offset. Assumes nothing.
use mathlib.Core.Path.{refl}
use Rattle.octets.specs.Bytes.{le_bytes}
use Rattle.message_write.proofs.heads.rest_head.Goals as goal

pub returns : goal.returns
unfolding le_bytes
returns c = refl
