-- The server has all passes still.
use Rattle.std.proofs.Common.{◌∙◌, arith}
use Rattle.dns_server.proofs.AllPasses.{taken_count, whole_listener}
use Rattle.dns_server.proofs.server.ThreadServer.register_listener.Goals as goal

pub invariant_of-self : goal.invariant_of-self
invariant_of-self g c =
    let s = c.self.inside in
    let t = c.take_on.new in (
      whole_listener g.row.U.Denot g.row.T.Denot s.book s.access s.free.items s.sockets.items s.listeners.items c.args.listener c.new.result t.free.items t.workers.items c.take_on.result c.self.invariant.0 c.take_on.ensures.taken,
      omega (arith, c.self.invariant.1, taken_count c.args.listener c.new.result s.free.items s.listeners.items t.free.items t.workers.items c.take_on.result c.take_on.ensures.taken, c.take_on.ensures.capacity, s.free.ok, s.listeners.ok, t.free.ok, t.workers.ok),
      c.self.invariant.2,
      c.self.invariant.3,
      c.take_on.ensures.room.0 ∙ c.self.invariant.4,
      c.take_on.ensures.room.1,
    )
