-- None of the words so far is repeated.
use Rattle.std.proofs.Common.{◌≡◌, map, drop, string_bytes}
use Rattle.std.specs.Prelude.{find}
use Rattle.dns_reasons.specs.Options.{is_repeated}
use Rattle.dns_reasons.proofs.options.first_repeated.Given as goal

abbrev pub invariant-loop-word : goal.invariant-loop-word
invariant-loop-word l =
    find (is_repeated l.keys (map string_bytes l.words)) (map string_bytes (drop l.word-index l.words))
    ≡ find (is_repeated l.keys (map string_bytes l.words)) (map string_bytes l.words)
