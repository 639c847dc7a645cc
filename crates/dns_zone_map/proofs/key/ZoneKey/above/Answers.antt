use Rattle.std.proofs.Common.{◌∙◌, ap, arith, drop}
use Rattle.dns_zone_map.specs.Keys.{key_of}
use Rattle.dns_zone_map.proofs.Written.{front_is, name_short, placed, within_above}
use Rattle.dns_zone_map.proofs.key.ZoneKey.above.Goals as goal

pub cut_back-end-requires-clause-fits : goal.cut_back-end-requires-clause-fits
cut_back-end-requires-clause-fits c = omega (arith, name_short _ c.self.invariant.named)

pub part-requires-clause-order : goal.part-requires-clause-order
part-requires-clause-order c = (front_is _ _ _ _ _ _ _ c.self.invariant (placed _ _ _ _ c.self.view_is c.requires) c.cut_back-end.ensures).0

pub part-requires-clause-within : goal.part-requires-clause-within
part-requires-clause-within c = let f = front_is _ _ _ _ _ _ _ c.self.invariant (placed _ _ _ _ c.self.view_is c.requires) c.cut_back-end.ensures in omega (arith, f.1, c.self.invariant.size)

pub returns-clause-key : goal.returns-clause-key
returns-clause-key c =
    c.part.ensures ∙ (front_is _ _ _ _ _ _ _ c.self.invariant (placed _ _ _ _ c.self.view_is c.requires) c.cut_back-end.ensures).2
    ∙ ap (λ p. key_of p.origin (drop c.args.labels_dropped p.name)) c.self.view_is

pub returns-clause-within : goal.returns-clause-within
returns-clause-within c = within_above _ _ _ _ c.self.view_is c.self.invariant.within c.requires
