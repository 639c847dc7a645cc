use Rattle.dns_connections.proofs.Stepping.{ticked}
use Rattle.dns_connections.proofs.crowd.Crowd.tick.Goals as goal

pub returns-clause-next : goal.returns-clause-next
returns-clause-next g c =
    ticked c.args.self.now c.close_over.new.self _ c.moment.result (rw c.tick.ensures c.self.view_is) c.close_over.ensures.moved c.close_over.ensures.quiet c.close_over.ensures.clocks c.close_over.ensures.nobody
    c.moment.ensures.is c.moment.ensures.bound
