use Rattle.std.proofs.Common.{◌≡◌, [], take, drop}
use Rattle.dns_presentation.specs.Words.{Plain, tokens_from}
use Rattle.dns_presentation.proofs.words.split_plain.Given as goal

abbrev pub invariant-loop-place : goal.invariant-loop-place
invariant-loop-place l = tokens_from (Plain (take l.place l.line)) (drop l.place l.line) ≡ tokens_from (Plain []) l.line
