-- None of those that were looked at is over.
use Rattle.dns_readiness.specs.Links.{IsNone, is_over}
use Rattle.dns_readiness.proofs.links.first_over.Given as goal

abbrev pub invariant-loop-place : goal.invariant-loop-place
invariant-loop-place l = IsNone (is_over l.patience l.now) l.links l.from l.place
