-- The words so far are options.
use Rattle.std.proofs.Common.{◌≡◌, map, drop, string_bytes}
use Rattle.std.specs.List.{list_all}
use Rattle.dns_command.specs.ListeningWords.{is_serve_option}
use Rattle.dns_command.proofs.listening_words.are_each_serve_option.Given as goal

abbrev pub invariant-loop-word : goal.invariant-loop-word
invariant-loop-word l =
    list_all is_serve_option (map string_bytes (drop l.word-index l.words)) ≡ list_all is_serve_option (map string_bytes l.words)
