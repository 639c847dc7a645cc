-- Those counted and those of the words that are left are all.
use Rattle.std.proofs.Common.{◌≡◌, ◌+◌, ◌≤◌, map, drop, string_bytes}
use Rattle.std.specs.Prelude.{count_by}
use Rattle.dns_reasons.specs.Options.{begins}
use Rattle.dns_reasons.proofs.options.words_with.Given as goal

abbrev pub invariant-loop-word : goal.invariant-loop-word
invariant-loop-word l =
    record {
      few : l.count ≤ l.word-index;
      all : l.count + count_by (begins l.key) (map string_bytes (drop l.word-index l.words)) ≡ count_by (begins l.key) (map string_bytes l.words);
    }
