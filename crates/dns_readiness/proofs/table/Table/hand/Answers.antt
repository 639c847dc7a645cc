use Rattle.std.proofs.Common.{◌≡◌, ◌<◌, length, slice_index_or, ap, subst, sym, ◌∙◌}
use Rattle.dns_readiness.specs.Decisions.{LinkSeen}
use Rattle.dns_readiness.specs.Links.{stands}
use Rattle.dns_readiness.specs.Tables.{TableSeen}
use Rattle.dns_readiness.proofs.Standing.{floor_set, standing_same}
use Rattle.dns_readiness.proofs.table.Table.hand.Goals as goal

pub invariant_of-self : goal.invariant_of-self
invariant_of-self c =
    let inside : c.args.place < length c.self.inside.links.items =
    subst (λ (t : TableSeen). c.args.place < length t.links) (sym c.self.view_is) c.requires.inside in
    let stood : stands c.send-sent.new.self ≡ stands (slice_index_or c.self.inside.links.items c.args.place c.index_mut-link.result.now) =
    ap (λ (one : LinkSeen). stands one) c.send-sent.ensures.same ∙ ap (λ (one : LinkSeen). stands one) c.index_mut-link.ensures.value in
    let held = standing_same c.self.inside.links.items c.args.place c.send-sent.new.self c.index_mut-link.result.now inside stood in (
      c.self.invariant.0 ∙ sym held,
      floor_set c.self.inside.floor c.lower-self-inside.result c.self.inside.links.items c.args.place
          c.send-sent.new.self c.self.invariant.1 c.lower-self-inside.ensures.below c.lower-self-inside.ensures.within,
    )
