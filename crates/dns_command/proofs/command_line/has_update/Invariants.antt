-- None of the words so far lets updates in.
use Rattle.std.proofs.Common.{◌≡◌, map, drop, string_bytes}
use Rattle.std.specs.List.{list_any}
use Rattle.dns_command.specs.CommandLine.{is_update_word}
use Rattle.dns_command.proofs.command_line.has_update.Given as goal

abbrev pub invariant-loop-word : goal.invariant-loop-word
invariant-loop-word l =
    list_any is_update_word (map string_bytes (drop l.word-index l.words)) ≡ list_any is_update_word (map string_bytes l.words)
