-- What the operating system's connections do, as a crowd tells it.
use Rattle.dns_crowd.proofs.Untold.{sends_by}
use Rattle.dns_crowd.proofs.socket_crowd.SocketCrowdCrowd.send.Goals as goal

pub returns : goal.returns
returns g c = record { told = sends_by c.args.self.now c.send_to.new.self c.args.conn c.args.bytes.now c.send_to.result c.send_to.ensures.moved c.send_to.ensures.memory }
