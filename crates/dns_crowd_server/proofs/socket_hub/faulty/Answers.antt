-- Where one of them has a count above 0, their sum is above 0.
use Rattle.std.proofs.Common.{sym, ◌∙◌}
use Rattle.dns_crowd_server.proofs.SomeFault.{one_of_first, one_of_second}
use Rattle.dns_crowd_server.proofs.socket_hub.faulty.Goals as goal

pub returns-then-has_faulty_socket : goal.returns-then-has_faulty_socket
returns-then-has_faulty_socket g c = one_of_first _ _ (sym c.has_faulty_socket.ensures ∙ c.if-has_faulty_socket.true)

pub returns-then-has_faulty_crowd : goal.returns-then-has_faulty_crowd
returns-then-has_faulty_crowd g c = one_of_second _ _ (sym c.has_faulty_crowd.ensures ∙ c.if-has_faulty_crowd.true)
