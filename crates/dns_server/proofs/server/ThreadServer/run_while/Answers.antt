-- The server has all passes still.
use Rattle.std.proofs.Common.{◌≡◌, ◌++◌, List, length, take, drop, arith, subst}
use Rattle.std.proofs.lemmas.List.{take_at}
use Rattle.dns_ports.specs.Ports.{listener_of}
use Rattle.dns_server.specs.declared.worker.Worker.{Worker}
use Rattle.dns_server.specs.Servers.{Matches, ServedListener, ServedSocket}
use Rattle.dns_server.proofs.AllPasses.{whole_ran}
use Rattle.dns_server.proofs.server.ThreadServer.run_while.Goals as goal

pub invariant_of-self : goal.invariant_of-self
invariant_of-self g c =
    let s = c.self.inside in
    let sockets : List (Worker g.row.U.Denot) = c.run_beside.new.sockets in
    let listeners : List (Worker g.row.T.Denot) = c.run_beside.new.listeners in
    let R : Worker g.row.U.Denot → Worker g.row.U.Denot → Type 0 = ServedSocket g.K.Keeper.keeper g.U.UdpPort.told s.access in
    let S : Worker g.row.T.Denot → Worker g.row.T.Denot → Type 0 = ServedListener g.K.Keeper.keeper (listener_of g.T.TcpPort.told g.T.In.Source.source g.T.Out.Sink.sink g.T.Time.Clock.clock) s.access in
    let m = subst (λ (l : List (Worker g.row.U.Denot)). Matches R l sockets) c.as_mut_slice.ensures.value c.run_beside.ensures.sockets in
    let n = subst (λ (l : List (Worker g.row.T.Denot)). Matches S l listeners) c.as_mut_slice-2.ensures.value c.run_beside.ensures.listeners in
    let all : take s.sockets.len (sockets ++ drop (length sockets) s.sockets.items) ≡ sockets = take_at sockets (drop (length sockets) s.sockets.items) s.sockets.len (omega (arith, c.run_beside.auto.sockets, c.as_mut_slice.ensures.len)) in
    let both : take s.listeners.len (listeners ++ drop (length listeners) s.listeners.items) ≡ listeners = take_at listeners (drop (length listeners) s.listeners.items) s.listeners.len (omega (arith, c.run_beside.auto.listeners, c.as_mut_slice-2.ensures.len)) in (
      rw (all, both) (whole_ran s.book s.access s.free.items s.sockets.items sockets s.listeners.items listeners R S (λ a b h. h.same) (λ a b h. h.same) c.self.invariant.0 m n),
      c.self.invariant.1,
      c.self.invariant.2,
      c.self.invariant.3,
      c.self.invariant.4,
      c.self.invariant.5,
    )
