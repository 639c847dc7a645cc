-- What the worker did.
use Rattle.std.proofs.Common.{sym, refl, subst₂}
use Rattle.dns_ticket_lock.specs.Passes.{PassSeen, SettledBy, LeftBy}
use Rattle.dns_server.specs.Sockets.{WorksSocket}
use Rattle.dns_server.proofs.SamePasses.{datagrams_same}
use Rattle.dns_server.proofs.socket_threads.end_socket.Goals as goal

pub returns : goal.returns
returns g c =
    let works = subst₂
    (λ (p q : PassSeen). WorksSocket (SettledBy g.K.Keeper.keeper c.args.access.now) LeftBy g.U.UdpPort.told
    (record { handler = p; port = c.args.worker.port }) (record { handler = q; port = c.serve_socket-answer.new.socket }) c.serve_socket-answer.result)
    c.new-seat.ensures (sym c.into_pass.ensures) c.serve_socket-answer.ensures in
    record { same = datagrams_same g.K.Keeper.keeper c.args.access.now c.args.worker.pass works.work.handled c.into_pass.result works.work.run; limit = refl; works = works }
