use Rattle.std.proofs.Common.{◌≡◌, drop}
use Rattle.dns_configuration.specs.Files.{text_at}
use Rattle.dns_configuration.proofs.memory.text_at.Given as goal

abbrev pub invariant-loop-own : goal.invariant-loop-own
invariant-loop-own l = text_at (drop l.own-index l.files) l.path ≡ text_at l.files l.path
