-- The answer of all workers, and their passes.
use Rattle.dns_ports.specs.Ports.{listener_of}
use Rattle.dns_server.specs.Servers.{ServedListener, ServedSocket}
use Rattle.dns_server.proofs.Answering.{answers_for, listener_rose, socket_rose}
use Rattle.dns_server.proofs.SamePasses.{all_same}
use Rattle.dns_server.proofs.server.ThreadServer.block_until_done.Goals as goal

pub returns-clause-passes : goal.returns-clause-passes
returns-clause-passes g c = all_same
    (ServedSocket g.K.Keeper.keeper g.U.UdpPort.told c.args.self.now.access)
    (ServedListener g.K.Keeper.keeper (listener_of g.T.TcpPort.told g.T.In.Source.source g.T.Out.Sink.sink g.T.Time.Clock.clock) c.args.self.now.access)
    (λ a b h. h.same) (λ a b h. h.same) c.args.self.now c.run.new.self c.run.ensures.others c.run.ensures.sockets c.run.ensures.listeners

pub returns-clause-answer : goal.returns-clause-answer
returns-clause-answer g c = answers_for g.U.UdpPort.told g.T.TcpPort.told _ _
    (socket_rose g.K.Keeper.keeper g.U.UdpPort.told c.args.self.now.access)
    (listener_rose g.K.Keeper.keeper (listener_of g.T.TcpPort.told g.T.In.Source.source g.T.Out.Sink.sink g.T.Time.Clock.clock) c.args.self.now.access)
    c.args.self.now c.run.new.self c.run.ensures.sockets c.run.ensures.listeners c.answer.result c.answer.ensures
