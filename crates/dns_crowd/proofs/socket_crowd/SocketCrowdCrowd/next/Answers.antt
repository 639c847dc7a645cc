-- What the operating system's connections do, as a crowd tells it.
use Rattle.dns_crowd.proofs.Untold.{gives_by}
use Rattle.dns_crowd.proofs.socket_crowd.SocketCrowdCrowd.next.Goals as goal

pub returns : goal.returns
returns g c = record { told = gives_by c.args.self.now c.next_event.new.self c.next_event.new.room c.next_event.result c.next_event.ensures.next c.next_event.ensures.last c.next_event.ensures.greatest c.next_event.ensures.same c.next_event.ensures.cause }
