use Rattle.dns_update.proofs.HalfDone.{zone_serial}
use Rattle.dns_update.proofs.batch.apply.Goals as goal

pub returns-clause-zone : goal.returns-clause-zone
returns-clause-zone c =
    zone_serial c.apply_each.new.map.origin c.set_serial.new.map.origin c.apply_each.new.map.records c.set_serial.new.map.records c.args.serial c.apply_each.ensures.zone c.set_serial.ensures.origin
    c.in_ok-set_serial.ensures.records
