-- Nothing changes while it is looked for.
use Rattle.dns_connections.proofs.links.first_untold.Given as goal

abbrev pub invariant-loop-place : goal.invariant-loop-place
invariant-loop-place g l = Unit {0}
