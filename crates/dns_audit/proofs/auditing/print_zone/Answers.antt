use Rattle.dns_audit.proofs.PartsEnd.{zone_did, zone_refused}
use Rattle.dns_audit.proofs.auditing.print_zone.Goals as goal

pub returns-in-Ok-clause-ends : goal.returns-in-Ok-clause-ends
returns-in-Ok-clause-ends g c =
    zone_did g.W.Sink.sink c.args.out.now c.print_text.new.out g.K.Keeper.keeper c.args.keeper.now c.zone_at.new.keeper c.args.origin.now c.args.length c.in-Ok.zone
    c.print_text.result c.in-Ok.ensures.ok c.in-Ok.ensures.reads c.print_text.ensures.ends

pub returns-in-Err-clause-ends : goal.returns-in-Err-clause-ends
returns-in-Err-clause-ends g c =
    zone_refused g.W.Sink.sink c.args.out.now c.refuse.new.out g.K.Keeper.keeper c.args.keeper.now c.zone_at.new.keeper c.args.origin.now c.args.length c.in-Err.fault
    c.status_of.result c.refuse.result c.in-Err.ensures.err c.in-Err.ensures.reads c.status_of.ensures c.refuse.ensures.ends c.refuse.ensures.wanted
