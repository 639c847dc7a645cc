-- What was called, and what is still to be called, is what is to be called in all.
use Rattle.std.proofs.Common.{◌≡◌, ◌++◌, true, length, flat_map}
use Rattle.dns_network.specs.Words.{has_ceased}
use Rattle.dns_connections.specs.Kept.{ceasing_of}
use Rattle.dns_connections.proofs.crowd.cease_all.Given as goal

abbrev pub invariant-loop-links : goal.invariant-loop-links
invariant-loop-links g l = record {
  ceased : has_ceased (g.N.Network.calls l.network) ≡ true;
  all : g.N.Network.calls l.network ++ flat_map ceasing_of l.links.items ≡ g.N.Network.calls l.fn.network ++ flat_map ceasing_of l.fn.links.items;
}

abbrev pub decreases-loop-links : goal.decreases-loop-links
decreases-loop-links g l = length l.links.items
