use Rattle.dns_quic.proofs.Sending.{takes-first, takes-more}
use Rattle.dns_quic.proofs.quic_stream.write_both.Goals as goal

pub returns-in-Ok-clause-taken : goal.returns-in-Ok-clause-taken
returns-in-Ok-clause-taken g c = takes-more _ _ _ _ _ _ c.in-Ok.ensures.taken c.write_to-in-Ok.ensures.taken

pub returns-in-Err-clause-taken : goal.returns-in-Err-clause-taken
returns-in-Err-clause-taken g c = takes-first _ _ _ _ _ c.in-Err.ensures.taken
