use Rattle.dns_zone.proofs.Descending.{underway_first}
use Rattle.dns_zone.proofs.descent.descend.Goals as goal

pub loop-end-init : goal.loop-end-init
loop-end-init c = underway_first c.args.walk.now c.requires.zone c.requires.within c.requires.top c.requires.below
