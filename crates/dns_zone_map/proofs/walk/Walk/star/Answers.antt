use Rattle.std.proofs.Common.{◌+◌, ◌<◌, ◌∙◌, ◌++◌, ◌∷◌, [], length, ap, sym, subst, IfOk}
use Rattle.dns_zone_map.specs.Keys.{star_above}
use Rattle.dns_zone_map.specs.Presence.{IsPresence}
use Rattle.dns_zone_map.specs.Walk.{Way}
use Rattle.dns_zone_map.proofs.Ways.{up_within, star_is, star_within, star_met, star_alone}
use Rattle.dns_zone_map.proofs.walk.Walk.star.Goals as goal

pub front_of-requires : goal.front_of-requires
front_of-requires c = up_within _ _ _ _ _ _ _ _ c.self.invariant (subst (λ (w : Way). length w.origin + w.left < length w.name) (sym c.self.view_is) c.requires)

pub returns-then-self-eq0 : goal.returns-then-self-eq0
returns-then-self-eq0 c =
    let below = subst (λ (w : Way). length w.origin + w.left < length w.name) (sym c.self.view_is) c.requires in
    let bytes = c.front_of-key.ensures ∙ c.write_star-end.ensures.key ∙ ap (λ front. front ++ 1 ∷ 42 ∷ []) c.front_of.ensures in
    subst (λ (w : Way). IfOk c.presence_in.result (IsPresence w.records (star_above (w.left + 1) w.name))) c.self.view_is
    (star_alone c.self.inside.map.now.origin c.self.inside.map.now.records _ c.tree_of.result.now.entries c.front_of-key.result.now _ c.presence_in.result c.tree_of.ensures (star_within _ _ _ _ _ _ _ _ c.self.invariant below)
    (star_is _ _ _ _ _ _ _ _ c.self.invariant below c.front_of-key.result.now bytes) bytes c.presence_in.ensures)

pub returns : goal.returns
returns c =
    let below = subst (λ (w : Way). length w.origin + w.left < length w.name) (sym c.self.view_is) c.requires in
    let bytes = c.front_of-key.ensures ∙ c.write_star-end.ensures.key ∙ ap (λ front. front ++ 1 ∷ 42 ∷ []) c.front_of.ensures in
    subst (λ (w : Way). IfOk c.presence_in-2.result (IsPresence w.records (star_above (w.left + 1) w.name))) c.self.view_is
    (star_met _ _ _ _ _ _ _ _ c.self.invariant below c.front_of-key.result.now c.presence_in-2.result c.if-self-eq0.false bytes c.presence_in-2.ensures)
