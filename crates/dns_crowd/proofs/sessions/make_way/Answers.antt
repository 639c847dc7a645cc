-- Those that are open stay, and no other.
use Rattle.std.proofs.Common.{◌<◌, ◌∙◌, ap, subst, sym}
use Rattle.std.specs.List.{AllByRecursion}
use Rattle.dns_server_core.specs.Connections.{Connection}
use Rattle.dns_server_core.specs.Order.{Climbs}
use Rattle.dns_crowd.specs.Slots.{all_in, open_in}
use Rattle.dns_crowd.proofs.Placed.{open_climbs, swept_all, swept_open}
use Rattle.dns_crowd.proofs.sessions.make_way.Goals as goal

pub returns-clause-same : goal.returns-clause-same
returns-clause-same c = ap open_in c.sweep.ensures ∙ swept_open c.args.slots.now.items

pub returns-clause-climbs : goal.returns-clause-climbs
returns-clause-climbs c = subst Climbs (sym (ap all_in c.sweep.ensures ∙ swept_all c.args.slots.now.items)) (open_climbs c.args.slots.now.items c.requires.climbs)

pub returns-clause-below : goal.returns-clause-below
returns-clause-below c =
    subst (AllByRecursion (λ (k : Connection). k.number < c.args.number)) (sym (ap all_in c.sweep.ensures ∙ swept_all c.args.slots.now.items)) c.requires.above
