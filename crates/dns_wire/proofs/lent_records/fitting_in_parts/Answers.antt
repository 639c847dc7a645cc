use Rattle.dns_wire.proofs.Lending.{less_then, part_stops, part_left, part_cut}
use Rattle.dns_wire.proofs.lent_records.fitting_in_parts.Goals as goal

pub returns-then-fitting-clause-fits : goal.returns-then-fitting-clause-fits
returns-then-fitting-clause-fits c =
    let i = c.loop-part.invariant in
    part_stops c.args.parts.now c.loop-part.part-index c.args.room c.loop-part.left c.loop-part.count _ c.part-item.result c.loop-part-test.true c.part-item.is i.0 i.1 c.fitting-fitting.ensures.fits
    (less_then _ _ _ c.fitting-fitting.ensures.cut c.if-fitting.true)

pub returns-then-fitting-clause-left : goal.returns-then-fitting-clause-left
returns-then-fitting-clause-left c =
    let i = c.loop-part.invariant in
    part_left c.args.parts.now c.loop-part.part-index c.args.room c.loop-part.left _ c.loop-part.count _ c.part-item.result c.loop-part-test.true c.part-item.is i.0 i.1 c.fitting-fitting.ensures.fits.within
    c.fitting-fitting.ensures.left

pub returns-then-fitting-clause-cut : goal.returns-then-fitting-clause-cut
returns-then-fitting-clause-cut c =
    let i = c.loop-part.invariant in
    part_cut c.args.parts.now c.loop-part.part-index c.loop-part.count _ c.part-item.result c.loop-part-test.true c.part-item.is i.1
    (less_then _ _ _ c.fitting-fitting.ensures.cut c.if-fitting.true)
