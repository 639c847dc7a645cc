use Rattle.std.proofs.Common.{◌≡◌, ◌+◌, ◌∙◌, length, sym, subst, arith, true, None}
use Rattle.std.specs.Option.{option_copied}
use Rattle.dns_name.specs.Name.{is_at_or_below}
use Rattle.dns_zone_map.specs.Mapped.{contents}
use Rattle.dns_zone_map.specs.Sets.{sets_or_none}
use Rattle.dns_zone.specs.Descent.{IsDescent}
use Rattle.dns_zone.proofs.Descending.{at_origin, look_along, origin_exists}
use Rattle.dns_zone.proofs.Looking.{look_in_is}
use Rattle.dns_zone.proofs.look.look_by.Goals as goal

pub returns-then-left-eq0 : goal.returns-then-left-eq0
returns-then-left-eq0 c =
    let top : length c.args.map.now.origin + 0 ≡ length c.args.key.now.name = omega (arith, c.walk-walk.ensures.left, c.left.ensures, c.if-left-eq0.true) in
    let within : is_at_or_below c.args.key.now.name c.args.map.now.origin ≡ true = subst (λ name. is_at_or_below name c.args.map.now.origin ≡ true) (sym c.requires.name) c.requires.within in
    c.look_at.ensures.is ∙ look_in_is c.args.map.now.records c.args.key.now.name (sets_or_none (option_copied c.sets.result)) None c.sets.ensures.sets c.args.rtype c.look_at.ensures.types
    ∙ sym (at_origin (contents c.args.map.now) c.args.key.now.name c.args.rtype (omega (arith, top)) (origin_exists c.args.map.now.origin c.args.map.now.records c.args.key.now.name 0 c.requires.zone within top))

pub returns-in-Own : goal.returns-in-Own
returns-in-Own c =
    let met = subst (IsDescent c.descend.new.walk c.args.rtype) c.in-Own.is c.in_ok-set.ensures.end in
    c.look_at-in-Own.ensures.is ∙ look_in_is c.descend.new.walk.records c.descend.new.walk.name (sets_or_none (option_copied c.in-Own.sets)) None met.1 c.args.rtype c.look_at-in-Own.ensures.types ∙ sym met.0
    ∙ look_along (contents c.args.map.now) c.args.key.now.name c.args.rtype c.walk-walk.result c.descend.new.walk c.walk-walk.ensures.origin c.walk-walk.ensures.records c.walk-walk.ensures.name c.descend.ensures.same
