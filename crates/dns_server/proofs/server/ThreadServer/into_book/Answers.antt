-- All passes are handed in.
use Rattle.std.proofs.Common.{◌≡◌, ◌∙◌, ◌++◌, [], List, ap, append_assoc}
use Rattle.dns_ticket_lock.specs.Passes.{PassSeen}
use Rattle.dns_server.specs.Servers.{their_passes}
use Rattle.dns_server.proofs.AllPasses.{are_all, whole_listeners, whole_sockets}
use Rattle.dns_server.proofs.server.ThreadServer.into_book.Goals as goal

pub close-requires : goal.close-requires
close-requires g c =
    let s = c.self.inside in
    let U = g.row.U.Denot in
    let T = g.row.T.Denot in
    let sockets = their_passes s.sockets.items in
    let all : c.dismiss-listeners.new.free.items ≡ (s.free.items ++ sockets) ++ their_passes s.listeners.items = c.dismiss-listeners.ensures.free ∙ ap (λ (l : List PassSeen). l ++ their_passes s.listeners.items) c.dismiss-sockets.ensures.free in
    record {
      all = rw all (are_all U T s.book s.access ((s.free.items ++ sockets) ++ their_passes s.listeners.items)
          (whole_listeners U T s.book s.access (s.free.items ++ sockets) [] s.listeners.items (whole_sockets U T s.book s.access s.free.items s.sockets.items s.listeners.items c.self.invariant.0)));
    }

pub returns-clause-all : goal.returns-clause-all
returns-clause-all g c =
    let s = c.self.inside in
    let U = g.row.U.Denot in
    let T = g.row.T.Denot in
    let sockets = their_passes s.sockets.items in
    let listeners = their_passes s.listeners.items in
    rw (← c.self.view_is, ← append_assoc s.free.items sockets listeners) (are_all U T s.book s.access ((s.free.items ++ sockets) ++ listeners)
    (whole_listeners U T s.book s.access (s.free.items ++ sockets) [] s.listeners.items (whole_sockets U T s.book s.access s.free.items s.sockets.items s.listeners.items c.self.invariant.0)))
