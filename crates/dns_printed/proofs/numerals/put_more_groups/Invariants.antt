use Rattle.std.proofs.Common.{drop, ◌++◌}
use Rattle.std.specs.List.{flat_map}
use Rattle.dns_printed.specs.Appending.{IsPutUpTo}
use Rattle.std.specs.Prelude.{codes}
use Rattle.std.specs.Net.Text.{hex}
use Rattle.dns_printed.proofs.numerals.put_more_groups.Given as goal

abbrev pub invariant-loop-group : goal.invariant-loop-group
invariant-loop-group l = IsPutUpTo l.fn.out.items l.out.items (flat_map (λ group. codes ":" ++ hex group) l.groups) (flat_map (λ group. codes ":" ++ hex group) (drop l.group-index l.groups))
