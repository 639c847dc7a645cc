use Rattle.std.proofs.Common.{◌≡◌, ◌+◌, ◌≤◌, take, length}
use Rattle.dns_wire.specs.Given.{in_parts}
use Rattle.dns_wire.specs.WireFormat.{records_bytes}
use Rattle.dns_wire.proofs.lent_records.fitting_in_parts.Given as goal

abbrev pub invariant-loop-part : goal.invariant-loop-part
invariant-loop-part l =
    (l.left + length (records_bytes (in_parts (take l.part-index l.parts))) ≡ l.room)
    × (l.count ≡ length (in_parts (take l.part-index l.parts))) × (l.count + l.left ≤ l.room)
