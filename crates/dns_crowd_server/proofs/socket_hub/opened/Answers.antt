-- None of the crowds failed.
use Rattle.dns_crowd_server.proofs.socket_hub.opened.Goals as goal

pub returns-clause-fresh_crowds : goal.returns-clause-fresh_crowds
returns-clause-fresh_crowds g c = λ k d small. record { none_taken = tt; none_closed = tt; no_fault = c.in_ok-crowds.ensures.fresh k d small }
