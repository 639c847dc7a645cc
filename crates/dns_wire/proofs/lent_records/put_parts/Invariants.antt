use Rattle.std.proofs.Common.{◌≡◌, ◌++◌, take, drop}
use Rattle.std.specs.Io.{StartsWith}
use Rattle.dns_wire.specs.Given.{in_parts}
use Rattle.dns_wire.specs.WireFormat.{records_bytes}
use Rattle.dns_wire.proofs.lent_records.put_parts.Given as goal

abbrev pub invariant-loop-part : goal.invariant-loop-part
invariant-loop-part l = record {
  begins : StartsWith l.out.items l.fn.out.items;
  written : l.out.items ++ records_bytes (take l.left (in_parts (drop l.part-index l.parts)))
      ≡ l.fn.out.items ++ records_bytes (take l.count (in_parts l.parts));
}
