use Rattle.std.proofs.Common.{◌+◌, ◌∙◌, ap, sym, subst, Some}
use Rattle.dns_name.specs.Name.{fold_of}
use Rattle.dns_zone_map.specs.Keys.{star_above}
use Rattle.dns_zone_map.specs.Presence.{IsPresence}
use Rattle.dns_zone.specs.Lent.{look_in}
use Rattle.dns_zone.proofs.Looking.{at_star, at_bare_star}
use Rattle.dns_zone.proofs.look.look_at_star.Goals as goal

pub returns-in-Empty : goal.returns-in-Empty
returns-in-Empty c =
    let met = subst (IsPresence c.args.walk.now.records (star_above (c.args.walk.now.left + 1) c.args.walk.now.name)) c.in-Empty.is c.in_ok-star.ensures in
    at_bare_star c.args.walk.now.records c.args.walk.now.name (c.args.walk.now.left + 1) c.args.rtype met.0 met.1

pub returns-in-Owner : goal.returns-in-Owner
returns-in-Owner c =
    let met = subst (IsPresence c.args.walk.now.records (star_above (c.args.walk.now.left + 1) c.args.walk.now.name)) c.in-Owner.is c.in_ok-star.ensures in
    c.look_in.ensures.is
    ∙ ap (λ name. look_in c.in-Owner.sets.now (Some (fold_of name)) c.args.rtype) (sym c.requires.name)
    ∙ at_star c.args.walk.now.records c.args.walk.now.name (c.args.walk.now.left + 1) c.args.rtype c.in-Owner.sets.now met.0 met.1 c.look_in.ensures.types
