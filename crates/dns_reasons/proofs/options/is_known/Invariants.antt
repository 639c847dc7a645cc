-- The word is none of the keys so far.
use Rattle.std.proofs.Common.{◌≡◌, drop}
use Rattle.dns_reasons.specs.Options.{is_known}
use Rattle.dns_reasons.proofs.options.is_known.Given as goal

abbrev pub invariant-loop-key : goal.invariant-loop-key
invariant-loop-key l = is_known (drop l.key-index l.keys) l.word ≡ is_known l.keys l.word
