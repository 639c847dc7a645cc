use Rattle.std.proofs.Common.{◌≡◌, ◌<◌, ◌^◌, drop}
use Rattle.dns_presentation.specs.Values.{number_from}
use Rattle.dns_presentation.proofs.values.number_from.Given as goal

abbrev pub invariant-loop-byte : goal.invariant-loop-byte
invariant-loop-byte l =
    (l.number < 2 ^ 32) × (number_from l.number (drop l.byte-index l.text) ≡ number_from 0 l.text)
