-- Among those that were looked at.
use Rattle.dns_readiness.specs.Links.{IsEarliest, is_idle, since}
use Rattle.dns_readiness.proofs.links.oldest.Given as goal

abbrev pub invariant-loop-place : goal.invariant-loop-place
invariant-loop-place l = IsEarliest is_idle since l.links l.place l.found
