use Rattle.std.proofs.Common.{◌≡◌, List, [], ◌∷◌, ◌++◌, true}
use Rattle.dns_network.specs.Calls.{Noted, ceased}
use Rattle.dns_network.specs.Words.{has_ceased}
use Rattle.dns_network.proofs.Causes.{ceased_now}
use Rattle.dns_tests.proofs.network.close_where_stopped.Goals as goal

ceased_behind : (before after : List Noted) → after ≡ before ++ ceased ∷ [] → has_ceased after ≡ true
ceased_behind before after e = rw e (ceased_now before)

pub close-requires : goal.close-requires
close-requires g c = record { cause = ceased_behind _ _ c.cease.ensures.told }
