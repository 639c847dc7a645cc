use Rattle.std.proofs.Common.{◌∙◌, sym}
use Rattle.dns_zone.proofs.TakenRows.{soa_missing}
use Rattle.dns_follow.proofs.ready.end.Goals as goal

pub returns-clause-fault : goal.returns-clause-fault
returns-clause-fault c = soa_missing c.args.growing.now c.without_soa-fault.result c.without_soa-fault.ensures (sym c.has_soa.ensures ∙ c.if-has_soa.false)
