-- The words so far don't begin with the key.
use Rattle.std.proofs.Common.{◌≡◌, map, drop, string_bytes}
use Rattle.dns_words.specs.Keys.{first_behind}
use Rattle.dns_words.proofs.keys.first_behind.Given as goal

abbrev pub invariant-loop-word : goal.invariant-loop-word
invariant-loop-word l =
    first_behind l.key (map string_bytes (drop l.word-index l.words)) ≡ first_behind l.key (map string_bytes l.words)
