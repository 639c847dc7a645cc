-- Whatever the reset answers, the id is told.
use Rattle.std.proofs.Common.{Ok, Err, refl}
use Rattle.dns_transport.specs.Faults.{of_io}
use Rattle.dns_quic.proofs.Sending.{is_io, not-zero}
use Rattle.dns_quic.proofs.quic_stream.QuicStream.checked.Goals as goal

pub returns-in-Ok-clause-checks : goal.returns-in-Ok-clause-checks
returns-in-Ok-clause-checks g c = rw (not-zero _ c.if-id-eq0.false) (refl, (Ok tt, ((Ok tt, (rw c.from.ensures at c.in-Ok.ensures.next, c.in-Ok.ensures.told.cause), refl), c.in-Ok.ensures.told.unwritten, (rw c.from.ensures at c.in-Ok.ensures.told.ended, refl))))

pub returns-clause-checks : goal.returns-clause-checks
returns-clause-checks g c = rw (not-zero _ c.if-id-eq0.false) (refl, (Err (of_io c.in-Err.field-0), ((Err c.in-Err.field-0, (rw c.from.ensures at c.in-Err.ensures.next, c.in-Err.ensures.told.cause), refl), c.in-Err.ensures.told.unwritten, (is_io c.in-Err.field-0, c.in-Err.ensures.told.kept, refl))))
