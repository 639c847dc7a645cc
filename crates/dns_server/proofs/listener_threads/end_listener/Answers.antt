-- What the worker did.
use Rattle.std.proofs.Common.{ℕ, sym, refl, subst, subst₂}
use Rattle.dns_ports.specs.Ports.{listener_of}
use Rattle.dns_ticket_lock.specs.Passes.{PassSeen, SettledBy, LeftBy}
use Rattle.dns_server.specs.Listeners.{WorksListener}
use Rattle.dns_server.proofs.SamePasses.{connections_same}
use Rattle.dns_server.proofs.listener_threads.end_listener.Goals as goal

pub returns : goal.returns
returns g c =
    let limited = subst
    (λ (n : ℕ). WorksListener (SettledBy g.K.Keeper.keeper c.args.access.now) LeftBy (listener_of g.T.TcpPort.told g.T.In.Source.source g.T.Out.Sink.sink g.T.Time.Clock.clock) n
    (record { handler = c.new-seat.result; port = c.args.worker.port }) (record { handler = c.serve_listener-answer.new.handler; port = c.serve_listener-answer.new.listener }) c.serve_listener-answer.result)
    c.milliseconds.ensures.is c.serve_listener-answer.ensures in
    let works = subst₂
    (λ (p q : PassSeen). WorksListener (SettledBy g.K.Keeper.keeper c.args.access.now) LeftBy (listener_of g.T.TcpPort.told g.T.In.Source.source g.T.Out.Sink.sink g.T.Time.Clock.clock) c.args.worker.limit
    (record { handler = p; port = c.args.worker.port }) (record { handler = q; port = c.serve_listener-answer.new.listener }) c.serve_listener-answer.result)
    c.new-seat.ensures (sym c.into_pass.ensures) limited in
    record {
      same = connections_same g.K.Keeper.keeper c.args.access.now g.T.In.Source.source g.T.Out.Sink.sink g.T.Time.Clock.clock c.args.worker.limit
          c.args.worker.pass works.work.handled c.into_pass.result works.work.run;
      limit = refl;
      works = works;
    }
