use Rattle.std.proofs.Common.{◌≡◌, drop}
use Rattle.std.specs.List.{list_any}
use Rattle.dns_name.specs.Name.{is_same_name}
use Rattle.dns_zone.specs.Lookup.{targets}
use Rattle.dns_zone.proofs.lookup.is_target.Given as goal

abbrev pub invariant-loop-one : goal.invariant-loop-one
invariant-loop-one l =
    list_any (is_same_name l.name) (targets (drop l.one-index l.aliases)) ≡ list_any (is_same_name l.name) (targets l.aliases)
