use Rattle.std.proofs.Common.{◌≡◌, map, string_bytes}
use Rattle.dns_words.specs.Written.{hex_word}
use Rattle.dns_words.proofs.written.hex_words.Given as goal

abbrev pub invariant-loop-word : goal.invariant-loop-word
invariant-loop-word l = map string_bytes l.all.items ≡ map hex_word (map string_bytes l.yielded)
