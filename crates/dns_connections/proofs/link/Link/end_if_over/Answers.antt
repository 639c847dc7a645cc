use Rattle.dns_connections.proofs.Causing.{over_stands}
use Rattle.dns_connections.proofs.Own.{acts_closed}
use Rattle.dns_connections.proofs.link.Link.end_if_over.Goals as goal

pub returns-in-Some-clause-acts : goal.returns-in-Some-clause-acts
returns-in-Some-clause-acts g c =
    let o = over_stands c.args.patience c.args.now c.args.self.now c.why_over.result c.in-Some.why c.why_over.ensures c.in-Some.is in
    acts_closed _ _ c.in-Some.why _ _ c.close.ensures.told c.close.ensures.is o.stands o.finished
