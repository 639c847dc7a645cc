use Rattle.std.proofs.Common.{◌≡◌, drop, None}
use Rattle.dns_presentation.specs.Values.{units_from}
use Rattle.dns_presentation.proofs.values.units_of.Given as goal

abbrev pub invariant-loop-byte : goal.invariant-loop-byte
invariant-loop-byte l = units_from l.seconds l.number (drop l.byte-index l.text) ≡ units_from 0 None l.text
