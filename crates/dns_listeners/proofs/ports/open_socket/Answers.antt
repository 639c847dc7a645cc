-- A socket that was not registered is taken back.
use Rattle.dns_listeners.proofs.Crews.{Registers-closed}
use Rattle.dns_listeners.proofs.ports.open_socket.Goals as goal

pub returns-in-Some-registered_socket-clause-registers : goal.returns-in-Some-registered_socket-clause-registers
returns-in-Some-registered_socket-clause-registers g c =
    let opened = c.in-Ok.ensures.told in
    Registers-closed _ _ _ _ _ _ _ c.registered_socket.ensures.same c.in-Some-registered_socket.ensures.back.1 opened.udp_kept opened.tcp_kept
    opened.udp_lent opened.tcp_lent opened.cause.later c.close_udp.ensures.told
