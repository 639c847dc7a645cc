-- The networks that were found and those of the words that are left are all.
use Rattle.std.proofs.Common.{◌≡◌, ◌++◌, map, drop, string_bytes}
use Rattle.dns_command.specs.CommandLine.{nets_behind}
use Rattle.dns_command.proofs.command_line.nets_behind.Given as goal

abbrev pub invariant-loop-word : goal.invariant-loop-word
invariant-loop-word l =
    l.nets ++ nets_behind l.key (map string_bytes (drop l.word-index l.words)) ≡ nets_behind l.key (map string_bytes l.words)
