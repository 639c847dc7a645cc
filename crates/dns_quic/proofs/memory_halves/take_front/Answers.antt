use Rattle.dns_quic.proofs.Sending.{took-nothing}
use Rattle.dns_quic.proofs.memory_halves.take_front.Goals as goal

pub returns-in-Err-clause-grown : goal.returns-in-Err-clause-grown
returns-in-Err-clause-grown c = took-nothing _ _ _ c.in-Err.ensures.err
