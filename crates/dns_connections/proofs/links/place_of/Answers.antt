use Rattle.std.proofs.Common.{rules, ℕ, ◌≡◌, ◌<◌, ◌+◌, ◌-◌, ◌/◌, length, sym, ap, subst, ◌∙◌}
use Rattle.dns_connections.specs.Links.{LinkSeen, link_at}
use Rattle.dns_connections.proofs.Crowding.{here_is}
use Rattle.dns_connections.proofs.Finding.{below}
use Rattle.dns_connections.proofs.links.place_of.Goals as goal

pub loop-low-preserved-then-here-number-2 : goal.loop-low-preserved-then-here-number-2
loop-low-preserved-then-here-number-2 g c =
    let inside : c.loop-low.low + (c.loop-low.high - c.loop-low.low) / 2 < length c.args.links.now.items = search rules in
    let here : link_at c.args.links.now.items (c.loop-low.low + (c.loop-low.high - c.loop-low.low) / 2) ≡ c.index.result.now = here_is _ _ _ inside c.index.ensures in
    let less : c.number-here.result < c.args.number = search rules in
    let smaller : (link_at c.args.links.now.items (c.loop-low.low + (c.loop-low.high - c.loop-low.low) / 2)).number < c.args.number =
    subst (λ (m : ℕ). m < c.args.number) (c.number-here.ensures ∙ sym (ap (λ (o : LinkSeen). o.number) here)) less in
    record {
      order = search rules;
      inside = c.loop-low.invariant.inside;
      below = below c.args.links.now.items c.args.number (c.loop-low.low + (c.loop-low.high - c.loop-low.low) / 2) c.requires inside smaller;
      above = c.loop-low.invariant.above;
    }
