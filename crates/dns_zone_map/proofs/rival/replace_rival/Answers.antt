use Rattle.std.proofs.Common.{◌<◌, slice_set, length, sym, ap, ◌∙◌, rules}
use Rattle.dns_zone_map.specs.Zone.{is_rival}
use Rattle.dns_zone_map.specs.Changes.{put_over}
use Rattle.dns_zone_map.proofs.Putting.{over_here}
use Rattle.dns_zone_map.proofs.rival.replace_rival.Goals as goal

pub returns-then-is_rival-clause-put : goal.returns-then-is_rival-clause-put
returns-then-is_rival-clause-put c =
    let within : c.loop-place.place < length c.loop-place.records.items = search rules in
    ap (λ r. slice_set c.loop-place.records.items c.loop-place.place r) c.replace.ensures.after
    ∙ over_here (is_rival c.args.one) c.args.one c.index.result.now c.loop-place.records.items c.loop-place.place within c.index.ensures (sym c.is_rival.ensures ∙ c.if-is_rival.true)
    ∙ c.loop-place.invariant.here ∙ ap (put_over (is_rival c.args.one) c.args.one) c.loop-place.invariant.same
