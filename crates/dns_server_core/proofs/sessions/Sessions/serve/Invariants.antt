-- What is kept is what the events so far leave, and the messages that they complete were handed over.
use Rattle.std.proofs.Common.{◌≡◌, take, drop}
use Rattle.dns_server_core.specs.Connections.{done, done_from}
use Rattle.dns_server_core.specs.Handing.{HandsFront}
use Rattle.dns_server_core.proofs.ListsKept.{so_far}
use Rattle.dns_server_core.proofs.sessions.Sessions.serve.Given as goal

abbrev pub invariant-loop-event : goal.invariant-loop-event
invariant-loop-event g l =
    record {
      kept : l.self ≡ so_far l.fn.self (take l.event-index l.events);
      front : HandsFront g.H.RequestHandler.serves l.fn.responder (done l.fn.self l.events) l.responder (done_from l.fn.self.connections (take l.event-index l.events) (drop l.event-index l.events));
    }
