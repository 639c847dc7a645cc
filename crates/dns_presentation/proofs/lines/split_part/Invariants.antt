use Rattle.std.proofs.Common.{◌≡◌, take, drop}
use Rattle.dns_presentation.specs.Lines.{parts_from, parts_of}
use Rattle.dns_presentation.proofs.lines.split_part.Given as goal

abbrev pub invariant-loop-place : goal.invariant-loop-place
invariant-loop-place l = parts_from l.separator (take l.place l.text) (drop l.place l.text) ≡ parts_of l.separator l.text
