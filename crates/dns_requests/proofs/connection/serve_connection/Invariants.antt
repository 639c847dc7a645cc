-- All messages so far were settled, and their replies written.
use Rattle.std.proofs.Common.{◌≡◌, []}
use Rattle.dns_io.specs.Told.{Keeps}
use Rattle.dns_requests.proofs.Going.{Going}
use Rattle.dns_requests.proofs.connection.serve_connection.Given as goal

abbrev pub invariant-loop-turn : goal.invariant-loop-turn
invariant-loop-turn g l =
    record {
      going : Going (g.T.RequestHandler.serves l.access) g.T.RequestHandler.skips g.R.Source.source g.W.Sink.sink g.C.Clock.clock (record { peer = l.fn.peer; limit = l.limit; reads = l.reads })
          (record { handler = l.fn.handler; source = l.fn.source; sink = l.fn.sink; clock = l.fn.clock })
          (record { handler = l.handler; source = l.source; sink = l.sink; clock = l.clock }) l._turn l.session;
      peer : l.session.peer ≡ l.fn.peer;
      written : l.replies.items ≡ [];
      unflushed : Keeps (g.W.Sink.sink.told l.fn.sink).flushed (g.W.Sink.sink.told l.sink).flushed;
    }
