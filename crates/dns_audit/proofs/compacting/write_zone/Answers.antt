use Rattle.dns_audit.proofs.Compacted.{gets_zone}
use Rattle.dns_audit.proofs.compacting.write_zone.Goals as goal

pub returns-in-Ok-clause-ok : goal.returns-in-Ok-clause-ok
returns-in-Ok-clause-ok g c =
    let told = g.L.Keeper.keeper.told in
    gets_zone (told c.args.into.now) (told c.append.new.self) c.args.zone.now c.args.moment c.serial.result c.len.result c.in_ok-records.records c.requires.empty
    c.in-Ok.ensures.appended.ok c.in-Ok.ensures.appended.run c.in-Ok.ensures.appended.cause.counts c.serial.ensures c.in_ok-records.ensures.records c.len.ensures c.in_ok-records.ensures.replay
