use Rattle.std.proofs.Common.{◌∷◌}
use Rattle.std.specs.List.{flat_map}
use Rattle.std.specs.Net.Text.{hex}
use Rattle.dns_printed.proofs.Putting.{one_stopped}
use Rattle.dns_printed.proofs.numerals.put_more_groups.Goals as goal

pub returns-in_err-put_behind_colon : goal.returns-in_err-put_behind_colon
returns-in_err-put_behind_colon c =
    one_stopped (λ group. 58 ∷ hex group) c.args.out.now.items c.loop-group.out.items c.put_behind_colon.new.out.items (flat_map (λ group. 58 ∷ hex group) c.args.groups.now) c.args.groups.now c.loop-group.group-index c.from_residual.result c.loop-group-test.true c.loop-group.invariant c.from_residual.ensures.0 c.in_err-put_behind_colon.ensures
