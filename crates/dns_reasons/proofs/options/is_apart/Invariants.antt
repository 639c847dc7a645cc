-- The word is none of the keys so far.
use Rattle.std.proofs.Common.{◌≡◌, drop}
use Rattle.std.specs.List.{list_any}
use Rattle.dns_reasons.specs.Options.{is_apart_from}
use Rattle.dns_reasons.proofs.options.is_apart.Given as goal

abbrev pub invariant-loop-key : goal.invariant-loop-key
invariant-loop-key l = list_any (is_apart_from l.word) (drop l.key-index l.keys) ≡ list_any (is_apart_from l.word) l.keys
