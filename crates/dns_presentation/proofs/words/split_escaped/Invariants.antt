use Rattle.std.proofs.Common.{◌≡◌, [], take, drop, if◌then◌else◌}
use Rattle.dns_presentation.specs.Words.{Plain, PlainEscape, tokens_from}
use Rattle.dns_presentation.proofs.words.split_escaped.Given as goal

abbrev pub invariant-loop-place : goal.invariant-loop-place
invariant-loop-place l =
    tokens_from (if l.escaped then PlainEscape (take l.place l.line) else Plain (take l.place l.line)) (drop l.place l.line)
    ≡ tokens_from (Plain []) l.line
