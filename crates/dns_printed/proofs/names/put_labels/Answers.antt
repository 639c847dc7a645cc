use Rattle.std.proofs.Common.{◌∷◌}
use Rattle.std.specs.List.{flat_map}
use Rattle.dns_printed.specs.Appending.{IsPutUpTo}
use Rattle.dns_printed.specs.Printed.{label_text}
use Rattle.dns_printed.proofs.Putting.{part_stopped}
use Rattle.dns_printed.proofs.names.put_labels.Goals as goal

pub returns-in_err-put_label : goal.returns-in_err-put_label
returns-in_err-put_label c =
    let before : IsPutUpTo c.args.out.now.items c.loop-label.out.items (flat_map label_text c.args.name.now) (flat_map label_text (c.in-Some.label.now ∷ c.next.new.self)) = rw c.in-Some.ensures.steps at c.loop-label.invariant in
    part_stopped c.args.out.now.items c.loop-label.out.items c.put_label.new.out.items (flat_map label_text c.args.name.now) (label_text c.in-Some.label.now) (flat_map label_text c.next.new.self) c.from_residual.result before c.from_residual.ensures.0 c.in_err-put_label.ensures
