-- Those counted and those of the words that are left are all.
use Rattle.std.proofs.Common.{◌≡◌, ◌+◌, ◌≤◌, map, drop, string_bytes}
use Rattle.std.specs.Prelude.{count_by}
use Rattle.dns_command.specs.CommandLine.{is_payload_word}
use Rattle.dns_command.proofs.command_line.payload_words.Given as goal

abbrev pub invariant-loop-word : goal.invariant-loop-word
invariant-loop-word l =
    record {
      few : l.count ≤ l.word-index;
      all : l.count + count_by is_payload_word (map string_bytes (drop l.word-index l.words)) ≡ count_by is_payload_word (map string_bytes l.words);
    }
