use Rattle.std.proofs.Common.{refl}
use Rattle.dns_wire.proofs.Lending.{stops_given, left_given}
use Rattle.dns_wire.proofs.lent_records.fitting_given.Goals as goal

pub returns-in_default-clause-fits : goal.returns-in_default-clause-fits
returns-in_default-clause-fits c =
    let i = c.loop-one.invariant in
    rw i.1 (stops_given _ c.args.records.now c.loop-one.one-index c.args.room c.loop-one.left _ c.one-item.result i.0 c.loop-one-test.true c.one-item.is refl c.in_default.ensures.over)

pub returns-in_default-clause-left : goal.returns-in_default-clause-left
returns-in_default-clause-left c =
    let i = c.loop-one.invariant in
    rw i.1 (left_given _ c.args.records.now c.loop-one.one-index c.args.room c.loop-one.left i.0)
