-- The word is repeated by none of the keys so far.
use Rattle.std.proofs.Common.{◌≡◌, map, drop, string_bytes}
use Rattle.dns_reasons.specs.Options.{is_repeated}
use Rattle.dns_reasons.proofs.options.is_repeated.Given as goal

abbrev pub invariant-loop-key : goal.invariant-loop-key
invariant-loop-key l =
    is_repeated (drop l.key-index l.keys) (map string_bytes l.words) l.word ≡ is_repeated l.keys (map string_bytes l.words) l.word
