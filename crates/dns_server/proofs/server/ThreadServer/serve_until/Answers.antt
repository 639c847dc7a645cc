-- The answer of all workers and of the reading, and the passes.
use Rattle.dns_edges.specs.Edges.{around}
use Rattle.dns_ports.specs.Ports.{listener_of}
use Rattle.dns_server.specs.Servers.{ServedListener, ServedSocket}
use Rattle.dns_server.proofs.Answering.{answers_for, answers_reading, listener_rose, reading_ended, socket_rose}
use Rattle.dns_server.proofs.SamePasses.{all_same}
use Rattle.dns_server.proofs.server.ThreadServer.serve_until.Goals as goal

pub returns-clause-passes : goal.returns-clause-passes
returns-clause-passes g c = all_same
    (ServedSocket g.K.Keeper.keeper g.U.UdpPort.told c.args.self.now.access)
    (ServedListener g.K.Keeper.keeper (listener_of g.T.TcpPort.told g.T.In.Source.source g.T.Out.Sink.sink g.T.Time.Clock.clock) c.args.self.now.access)
    (λ a b h. h.same) (λ a b h. h.same) c.args.self.now c.run_while-reading.new.self c.run_while-reading.ensures.others c.run_while-reading.ensures.sockets c.run_while-reading.ensures.listeners

pub returns-clause-answer : goal.returns-clause-answer
returns-clause-answer g c =
    let before = c.args.self.now in
    let after = c.run_while-reading.new.self in
    rw c.or_reading.ensures (answers_reading g.U.UdpPort.told g.T.TcpPort.told before after c.answer.result
    (around g.E.Source.source.told c.args.until.now c.run_while-reading.new.until) c.run_while-reading.result
    (answers_for g.U.UdpPort.told g.T.TcpPort.told _ _
    (socket_rose g.K.Keeper.keeper g.U.UdpPort.told before.access)
    (listener_rose g.K.Keeper.keeper (listener_of g.T.TcpPort.told g.T.In.Source.source g.T.Out.Sink.sink g.T.Time.Clock.clock) before.access)
    before after c.run_while-reading.ensures.sockets c.run_while-reading.ensures.listeners c.answer.result c.answer.ensures)
    c.run_while-reading.ensures.ended)

pub returns-clause-until : goal.returns-clause-until
returns-clause-until g c = rw c.or_reading.ensures (reading_ended c.answer.result (around g.E.Source.source.told c.args.until.now c.run_while-reading.new.until) c.run_while-reading.result c.run_while-reading.ensures.ended)

pub returns-clause-reading : goal.returns-clause-reading
returns-clause-reading g c = record {
  reading = c.run_while-reading.result;
  ended = c.run_while-reading.ensures.ended;
  answer = rw (← c.answer.ensures) c.or_reading.ensures;
  read = c.run_while-reading.ensures.read;
  later = c.run_while-reading.ensures.later;
}
