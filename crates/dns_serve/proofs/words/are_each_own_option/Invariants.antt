-- The words so far are options.
use Rattle.std.proofs.Common.{◌≡◌, map, drop, string_bytes}
use Rattle.std.specs.List.{list_all}
use Rattle.dns_serve.specs.Words.{is_own_option}
use Rattle.dns_serve.proofs.words.are_each_own_option.Given as goal

abbrev pub invariant-loop-word : goal.invariant-loop-word
invariant-loop-word l =
    list_all is_own_option (map string_bytes (drop l.word-index l.words)) ≡ list_all is_own_option (map string_bytes l.words)
