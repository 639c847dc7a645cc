use Rattle.dns_wire.proofs.Fitting.{fits_some, fits_all}
use Rattle.dns_wire.proofs.Lending.{less_then, not_less_then, left_both, left_some}
use Rattle.dns_wire.proofs.lent_reply.kept_behind.Goals as goal

pub returns-then-first-clause-fits : goal.returns-then-first-clause-fits
returns-then-first-clause-fits c =
    fits_some c.args.authority.now c.args.additional.now _ _ c.fitting-first.ensures.fits (less_then _ _ _ c.fitting-first.ensures.cut c.if-first.true)

pub returns-clause-fits : goal.returns-clause-fits
returns-clause-fits c =
    fits_all c.args.authority.now c.args.additional.now _ _ _ _ c.fitting-first.ensures.fits (not_less_then _ _ _ c.fitting-first.ensures.cut c.if-first.false) c.fitting-first.ensures.left c.fitting-second.ensures.fits

pub returns-then-first-clause-left : goal.returns-then-first-clause-left
returns-then-first-clause-left c =
    left_some c.args.authority.now c.args.additional.now _ _ _ (less_then _ _ _ c.fitting-first.ensures.cut c.if-first.true) c.fitting-first.ensures.left

pub returns-clause-left : goal.returns-clause-left
returns-clause-left c =
    left_both c.args.authority.now c.args.additional.now _ _ _ _ _ (not_less_then _ _ _ c.fitting-first.ensures.cut c.if-first.false) c.fitting-first.ensures.fits.within c.fitting-first.ensures.left
    c.fitting-second.ensures.fits.within c.fitting-second.ensures.left
