-- Nothing went.
use Rattle.std.proofs.Common.{◌≡◌}
use Rattle.dns_ports.specs.Passed.{passed}
use Rattle.dns_ports.proofs.datagrams.send.Given as goal

abbrev pub invariant-loop : goal.invariant-loop
invariant-loop g l = passed (g.N.Network.calls l.network) ≡ passed (g.N.Network.calls l.fn.network)
