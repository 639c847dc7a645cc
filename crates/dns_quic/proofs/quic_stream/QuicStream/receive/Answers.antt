use Rattle.std.proofs.Common.{Ok, Err, refl}
use Rattle.dns_quic.proofs.quic_stream.QuicStream.receive.Goals as goal

pub returns-in-Ok-clause-receives : goal.returns-in-Ok-clause-receives
returns-in-Ok-clause-receives g c = (c.receive_bytes.new.self, Ok c.in-Ok.bytes, c.in-Ok.ensures.receives, rw c.as_slice.ensures at c.read_checked.ensures.reads)

pub returns-in-Err-clause-receives : goal.returns-in-Err-clause-receives
returns-in-Err-clause-receives g c = (c.receive_bytes.new.self, Err c.in-Err.fault, c.in-Err.ensures.receives, (refl, refl))
