-- What the operating system's connections do, as a crowd tells it.
use Rattle.dns_crowd.proofs.Untold.{closes_by}
use Rattle.dns_crowd.proofs.socket_crowd.SocketCrowdCrowd.close.Goals as goal

pub returns : goal.returns
returns g c = record { told = closes_by c.args.self.now c.close_one.new.self c.args.conn c.close_one.ensures.moved }
