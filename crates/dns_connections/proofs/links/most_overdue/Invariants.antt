-- Among those that were looked at.
use Rattle.dns_connections.specs.Links.{IsEarliest, is_overdue, mark}
use Rattle.dns_connections.proofs.links.most_overdue.Given as goal

abbrev pub invariant-loop-place : goal.invariant-loop-place
invariant-loop-place g l = IsEarliest (is_overdue l.patience l.now) mark l.links.items l.place l.found
