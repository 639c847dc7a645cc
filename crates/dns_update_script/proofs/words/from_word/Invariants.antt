use Rattle.std.proofs.Common.{◌≡◌, drop}
use Rattle.dns_update_script.specs.Words.{from_word}
use Rattle.dns_update_script.proofs.words.from_word.Given as goal

abbrev pub invariant-loop-place : goal.invariant-loop-place
invariant-loop-place l = from_word (drop l.place l.line) ≡ from_word l.line
