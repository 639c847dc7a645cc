use Rattle.std.proofs.Common.{◌∙◌, sym, ap, eqb}
use Rattle.std.specs.Prelude.{◌&&◌}
use Rattle.std.specs.List.{starts_with}
use Rattle.dns_zone_map.specs.Sets.{are_some}
use Rattle.dns_zone_map.proofs.Begun.{only_begun}
use Rattle.dns_zone_map.proofs.tree.is_only_begun.Goals as goal

pub returns-then-begins : goal.returns-then-begins
returns-then-begins c =
    c.is_some.ensures ∙ ap (λ b. b && are_some c.in-Some.sets.now) (sym c.if-begins.true ∙ c.begins.ensures ∙ ap (λ bytes. starts_with eqb bytes c.args.key.now) c.deref.ensures.value)
    ∙ only_begun _ _ _ c.requires c.in-Some.ensures.first

pub returns-else-begins : goal.returns-else-begins
returns-else-begins c =
    c.if-begins.false ∙ ap (λ b. b && are_some c.in-Some.sets.now) (sym c.if-begins.false ∙ c.begins.ensures ∙ ap (λ bytes. starts_with eqb bytes c.args.key.now) c.deref.ensures.value)
    ∙ only_begun _ _ _ c.requires c.in-Some.ensures.first
