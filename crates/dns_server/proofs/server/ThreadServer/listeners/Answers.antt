-- The passes of the workers are free.
use Rattle.std.proofs.Common.{◌≡◌, ◌∙◌, ◌++◌, [], ap, length, arith}
use Rattle.dns_server.specs.Servers.{their_passes}
use Rattle.dns_server.proofs.AllPasses.{given_count, whole_listeners}
use Rattle.dns_server.proofs.server.ThreadServer.listeners.Goals as goal

pub invariant_of-self : goal.invariant_of-self
invariant_of-self g c =
    let s = c.self.inside in
    let none : c.replace-workers.new.dest.items ≡ [] = ap (λ v. v.items) c.replace-workers.ensures.after ∙ c.new.ensures.items in
    let no_port : c.replace-room.new.dest.items ≡ [] = ap (λ v. v.items) c.replace-room.ensures.after ∙ c.new-2.ensures.items in
    let free : c.dismiss.new.free.items ≡ s.free.items ++ their_passes s.listeners.items = c.dismiss.ensures.free ∙ ap (λ v. s.free.items ++ their_passes v.items) c.replace-workers.ensures.value in (
      rw (none, free) (whole_listeners g.row.U.Denot g.row.T.Denot s.book s.access s.free.items s.sockets.items s.listeners.items c.self.invariant.0),
      omega (arith, c.self.invariant.1, ap length free, given_count s.free.items s.listeners.items, ap length none, c.dismiss.ensures.capacity, s.free.ok, s.listeners.ok, c.dismiss.new.free.ok, c.replace-workers.new.dest.ok),
      c.self.invariant.2,
      c.self.invariant.3,
      no_port,
      omega (arith, ap length none, c.replace-workers.new.dest.ok),
    )
