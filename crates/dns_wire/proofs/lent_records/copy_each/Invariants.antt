use Rattle.std.proofs.Common.{◌≡◌, ◌++◌, drop, map}
use Rattle.std.specs.Prelude.{option_map}
use Rattle.dns_name.specs.Name.{fold_of}
use Rattle.dns_wire.specs.Given.{given_as}
use Rattle.dns_wire.proofs.lent_records.copy_each.Given as goal

abbrev pub invariant-loop-one : goal.invariant-loop-one
invariant-loop-one l =
    l.out.items ++ map (given_as (option_map fold_of l.owner) l.is_negative) (drop l.one-index l.records)
    ≡ l.fn.out.items ++ map (given_as (option_map fold_of l.owner) l.is_negative) l.records
