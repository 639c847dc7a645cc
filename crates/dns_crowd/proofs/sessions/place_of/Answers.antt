-- One that is gone is not among those that are open.
use Rattle.std.proofs.Common.{◌≢◌}
use Rattle.dns_crowd.proofs.Placed.{all_open, gone_none}
use Rattle.dns_crowd.proofs.sessions.place_of.Goals as goal

pub returns-in_default-clause-none : goal.returns-in_default-clause-none
returns-in_default-clause-none c = λ climbs. all_open (λ k. k.number ≢ c.args.number) c.args.slots.now (c.in_default.ensures.none climbs)

pub returns-then-slots-place-clause-none : goal.returns-then-slots-place-clause-none
returns-then-slots-place-clause-none c =
    let slot = c.index-slots-place.result in
    λ climbs. gone_none c.args.slots.now c.in-Some.place slot c.args.number climbs c.in-Some.ensures.inside (c.in-Some.ensures.found slot) c.if-slots-place.true
