-- None of the keys so far tells a fault.
use Rattle.std.proofs.Common.{◌≡◌, drop}
use Rattle.dns_reasons.specs.Options.{first_fault}
use Rattle.dns_reasons.proofs.options.first_fault.Given as goal

abbrev pub invariant-loop-key : goal.invariant-loop-key
invariant-loop-key l = first_fault (drop l.key-index l.keys) l.word ≡ first_fault l.keys l.word
