use Rattle.std.proofs.Common.{◌+◌, ◌≤◌, ◌∷◌, ◌++◌, ◌≡◌, ◌∙◌, length, take, arith, length-append}
use Rattle.std.specs.List.{AllByRecursion}
use Rattle.dns_name.specs.Name.{IsLabel, labels_bytes}
use Rattle.dns_presentation.proofs.NameRooms.{origin_step}
use Rattle.dns_presentation.proofs.names.put_origin.Goals as goal

pub loop-label-preserved : goal.loop-label-preserved
loop-label-preserved c =
    let label = c.in-Some.label.now in
    let left = c.next.new.self in
    let loop = c.loop-label.invariant in
    let within : c.loop-label.end + length (labels_bytes (label ∷ left)) ≤ 254 = rw c.in-Some.ensures.steps at loop.within in
    let each : AllByRecursion IsLabel (label ∷ left) = rw c.in-Some.ensures.steps at loop.labels in
    let put : take c.loop-label.end c.loop-label.room ++ labels_bytes (label ∷ left) ≡ take c.args.end c.args.room.now ++ labels_bytes c.args.origin.now = rw c.in-Some.ensures.steps at loop.put in
    record {
      size = c.put_label-end.ensures.size ∙ loop.size;
      put = origin_step _ _ label left _ _ _ put (omega (arith, within, loop.size)) c.put_label-end.ensures.place c.put_label-end.ensures.put;
      labels = each.1;
      within = omega (arith, within, c.put_label-end.ensures.place, length-append label (labels_bytes left));
    }
