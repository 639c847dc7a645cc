-- What holds of each worker.
use Rattle.std.proofs.Common.{rules, subst₂}
use Rattle.dns_server.specs.declared.worker.Worker.{Worker}
use Rattle.dns_ports.specs.Ports.{listener_of}
use Rattle.dns_server.specs.Servers.{ServedListener}
use Rattle.dns_server.proofs.AllPasses.{book_at, matches_at}
use Rattle.dns_server.proofs.listener_threads.run_listeners.Goals as goal

pub for_each_mut-requires-clause-accepts : goal.for_each_mut-requires-clause-accepts
for_each_mut-requires-clause-accepts g c κs within = λ i w small e. book_at c.args.book.now c.args.workers.now c.requires i w.now small e

pub returns : goal.returns
returns g c =
    let P : Worker g.row.T.Denot → Worker g.row.T.Denot → Type 0 = ServedListener g.K.Keeper.keeper (listener_of g.T.TcpPort.told g.T.In.Source.source g.T.Out.Sink.sink g.T.Time.Clock.clock) c.args.access.now in
    matches_at P c.args.workers.now c.for_each_mut.new.s c.for_each_mut.auto.s (λ i d low. let h = (c.for_each_mut.ensures i d low).1 in subst₂ P h.argument_is h.left (search rules))
