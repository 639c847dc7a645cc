-- What is said on the stream that was opened, and its halves come back.
use Rattle.std.proofs.Common.{Ok}
use Rattle.dns_quic.proofs.client.ask_over.Goals as goal

pub returns-in-Ok-clause-went : goal.returns-in-Ok-clause-went
returns-in-Ok-clause-went g c =
    record {
      between = c.open.new.self;
      answer = Ok (c.in-Ok.send, c.in-Ok.recv);
      opened = c.in-Ok.ensures.next;
      asked = c.in-Ok.ensures.told.asked;
      ended = (
        c.talk-answer.new.stream,
        rw c.new-stream.ensures at c.talk-answer.ensures.talks,
        rw c.new-stream.ensures at c.talk-answer.ensures.cause,
        rw c.into_halves-send.ensures at c.done.ensures.told.told,
      );
    }
