-- Among those that were looked at.
use Rattle.dns_connections.specs.Links.{IsEarliest, is_idle, since}
use Rattle.dns_connections.proofs.links.oldest.Given as goal

abbrev pub invariant-loop-place : goal.invariant-loop-place
invariant-loop-place g l = IsEarliest is_idle since l.links.items l.place l.found
