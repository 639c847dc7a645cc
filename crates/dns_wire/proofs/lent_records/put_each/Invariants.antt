use Rattle.std.proofs.Common.{◌≡◌, ◌++◌, drop, map}
use Rattle.std.specs.Prelude.{option_map}
use Rattle.std.specs.Io.{StartsWith}
use Rattle.dns_name.specs.Name.{fold_of}
use Rattle.dns_wire.specs.Given.{given_as}
use Rattle.dns_wire.specs.WireFormat.{records_bytes}
use Rattle.dns_wire.proofs.lent_records.put_each.Given as goal

abbrev pub invariant-loop-one : goal.invariant-loop-one
invariant-loop-one l = record {
  begins : StartsWith l.out.items l.fn.out.items;
  written : l.out.items ++ records_bytes (map (given_as (option_map fold_of l.owner) l.is_negative) (drop l.one-index l.records))
      ≡ l.fn.out.items ++ records_bytes (map (given_as (option_map fold_of l.owner) l.is_negative) l.records);
}
