-- So many of those that were looked at stand.
use Rattle.std.proofs.Common.{◌≡◌, ◌≤◌, take}
use Rattle.dns_readiness.specs.Links.{standing}
use Rattle.dns_readiness.proofs.links.standing.Given as goal

abbrev pub invariant-loop-link : goal.invariant-loop-link
invariant-loop-link l = (l.count ≡ standing (take l.link-index l.links)) × (l.count ≤ l.link-index)
