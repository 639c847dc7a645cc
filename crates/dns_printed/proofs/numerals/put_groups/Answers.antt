use Rattle.std.proofs.Common.{◌-◌, ◌∷◌, ◌++◌, length, take, drop, get_or}
use Rattle.std.specs.List.{flat_map}
use Rattle.std.specs.Net.Text.{hex, groups_text}
use Rattle.dns_printed.proofs.Putting.{behind, first_stopped, same_text, groups_are}
use Rattle.dns_printed.proofs.numerals.put_groups.Goals as goal

pub returns-in_err-put_group-in-len1-up : goal.returns-in_err-put_group-in-len1-up
returns-in_err-put_group-in-len1-up c =
    same_text c.args.out.now.items c.put_group.new.out.items (hex (get_or c.args.groups.now 0 0) ++ flat_map (λ group. 58 ∷ hex group) (take (length c.args.groups.now - 1) (drop 1 c.args.groups.now))) (groups_text c.args.groups.now) c.from_residual.result (groups_are c.args.groups.now c.in-len1-up.len_at_least)
    (first_stopped c.args.out.now.items c.put_group.new.out.items (hex (get_or c.args.groups.now 0 0)) (flat_map (λ group. 58 ∷ hex group) (take (length c.args.groups.now - 1) (drop 1 c.args.groups.now))) c.from_residual.result c.from_residual.ensures.0 c.in_err-put_group-in-len1-up.ensures)

pub returns-in_ok-put_group-in-len1-up : goal.returns-in_ok-put_group-in-len1-up
returns-in_ok-put_group-in-len1-up c =
    same_text c.args.out.now.items c.put_more_groups.new.out.items (hex (get_or c.args.groups.now 0 0) ++ flat_map (λ group. 58 ∷ hex group) (take (length c.args.groups.now - 1) (drop 1 c.args.groups.now))) (groups_text c.args.groups.now) c.put_more_groups.result (groups_are c.args.groups.now c.in-len1-up.len_at_least)
    (behind c.args.out.now.items c.put_group.new.out.items c.put_more_groups.new.out.items (hex (get_or c.args.groups.now 0 0)) (flat_map (λ group. 58 ∷ hex group) (take (length c.args.groups.now - 1) (drop 1 c.args.groups.now))) c.put_more_groups.result c.in_ok-put_group-in-len1-up.ensures c.put_more_groups.ensures)
