use Rattle.std.proofs.Common.{take, map}
use Rattle.dns_wire.specs.WireFormat.{record_bytes}
use Rattle.dns_keeper.specs.Packed.{Packs}
use Rattle.dns_keeper.proofs.packed_rows.packed.Given as goal

abbrev pub invariant-loop-one : goal.invariant-loop-one
invariant-loop-one l = Packs l.stamp (map record_bytes (take l.one-index l.records)) l.ends.items l.bytes.items
