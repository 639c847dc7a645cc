use Rattle.std.proofs.Common.{◌≡◌, ◌++◌, map, drop}
use Rattle.dns_name.specs.declared.fault.ProtoError.{ProtoError}
use Rattle.dns_wire.specs.WireFormat.{record_bytes, AreShort}
use Rattle.dns_journal.specs.Records.{TellsFirstLong}
use Rattle.dns_journal.proofs.inserts.encoded.Given as goal

abbrev pub invariant-loop-one : goal.invariant-loop-one
invariant-loop-one l =
    (l.all.items ++ map record_bytes (drop l.one-index l.records) ≡ map record_bytes l.records)
    × (AreShort (drop l.one-index l.records) → AreShort l.records)
    × ((e : ProtoError) → TellsFirstLong (drop l.one-index l.records) e → TellsFirstLong l.records e)
