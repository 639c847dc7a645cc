use Rattle.std.proofs.Common.{◌≡◌, ◌++◌, drop, map}
use Rattle.std.specs.Prelude.{option_map}
use Rattle.dns_name.specs.Name.{fold_of}
use Rattle.dns_wire.specs.Given.{given, in_parts}
use Rattle.dns_zone_map.specs.Sets.{in_all}
use Rattle.dns_zone.proofs.lent.add_sets.Given as goal

abbrev pub invariant-loop-set : goal.invariant-loop-set
invariant-loop-set l =
    in_parts l.parts.items ++ map (given (option_map fold_of l.asked)) (in_all (drop l.set-index l.sets))
    ≡ in_parts l.fn.parts.items ++ map (given (option_map fold_of l.asked)) (in_all l.sets)
