-- `message_write::write_probe` meets its contract: the type and the radius in the other order are the message's bytes. Assumes nothing.
use Rattle.message_write.proofs.Shapes.{probe_writes}
use Rattle.message_write.proofs.write_probe.Goals as goal

pub returns : goal.returns
returns c = probe_writes c.args.kind c.args.radius _ c.write_two.ensures c.type_byte.ensures c.reversed-rest.ensures
