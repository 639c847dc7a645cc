use Rattle.dns_gateway.proofs.quic.send_reply.Goals as goal

pub returns-in-Some-clause-sends : goal.returns-in-Some-clause-sends
returns-in-Some-clause-sends g c = rw (c.in-Some.is, ← c.as_slice.ensures) c.send_whole.ensures.sends
