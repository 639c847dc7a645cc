-- Among those that were looked at.
use Rattle.dns_readiness.specs.Links.{IsEarliest, is_overdue, mark}
use Rattle.dns_readiness.proofs.links.most_overdue.Given as goal

abbrev pub invariant-loop-place : goal.invariant-loop-place
invariant-loop-place l = IsEarliest (is_overdue l.patience l.now) mark l.links l.place l.found
