-- Nothing changes while it is looked for.
use Rattle.dns_readiness.proofs.links.oldest_from.Given as goal

abbrev pub invariant-loop-place : goal.invariant-loop-place
invariant-loop-place l = Unit {0}
