use Rattle.std.proofs.Common.{◌<◌, ap, arith}
use Rattle.dns_zone_map.specs.Walk.{Way}
use Rattle.dns_zone_map.proofs.Ways.{size_there, next_within, next_way, met}
use Rattle.dns_zone_map.proofs.walk.Walk.down.Goals as goal

pub bounds-self-inside-self-inside : goal.bounds-self-inside-self-inside
bounds-self-inside-self-inside c = size_there _ _ _ _ _ _ _ _ c.self.invariant (let some : 0 < c.self.inside.left = omega (arith, c.requires, ap (λ (w : Way). w.left) c.self.view_is) in some)

pub overflow_add-self-2 : goal.overflow_add-self-2
overflow_add-self-2 c =
    let some : 0 < c.self.inside.left = omega (arith, c.requires, ap (λ (w : Way). w.left) c.self.view_is) in
    omega (arith, next_within _ _ _ _ _ _ _ _ c.self.invariant some c.from-size.result c.from-size.ensures, c.self.invariant.short)

pub front_of-requires : goal.front_of-requires
front_of-requires c =
    let some : 0 < c.self.inside.left = omega (arith, c.requires, ap (λ (w : Way). w.left) c.self.view_is) in
    next_within _ _ _ _ _ _ _ _ c.self.invariant some c.from-size.result c.from-size.ensures

pub invariant_of-self : goal.invariant_of-self
invariant_of-self c =
    let some : 0 < c.self.inside.left = omega (arith, c.requires, ap (λ (w : Way). w.left) c.self.view_is) in
    next_way _ _ _ _ _ _ _ _ c.self.invariant some c.from-size.result c.from-size.ensures

pub returns-clause-met : goal.returns-clause-met
returns-clause-met c =
    let some : 0 < c.self.inside.left = omega (arith, c.requires, ap (λ (w : Way). w.left) c.self.view_is) in
    met _ _ _ _ _ _ _ _ c.self.invariant some c.from-size.result c.from-size.ensures c.front_of.result.now c.presence_in.result c.front_of.ensures c.presence_in.ensures
