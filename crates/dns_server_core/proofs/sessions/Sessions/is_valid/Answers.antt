-- The test is exact.
use Rattle.std.proofs.Common.{◌≡◌, ◌<◌, ◌^◌, ◌↔◌, sym, subst, arith, length, true, false}
use Rattle.dns_server_core.specs.Connections.{Kept}
use Rattle.dns_server_core.specs.Valid.{Valid}
use Rattle.dns_server_core.specs.ValidTest.{are_valid}
use Rattle.dns_server_core.proofs.ValidTests.{valid-is}
use Rattle.dns_server_core.proofs.sessions.Sessions.is_valid.Goals as goal

pub returns-then-events-lt4294967296 : goal.returns-then-events-lt4294967296
returns-then-events-lt4294967296 c =
    let few : length c.args.events.now < 2 ^ 32 = omega (arith, c.if-events-lt4294967296.true) in
    rw c.are_valid.ensures
    (subst (λ (k : Kept). (are_valid k.last k.greatest false c.args.events.now ≡ true) ↔ Valid c.args.self.now c.args.events.now) (sym c.self.view_is) (valid-is c.args.self.now c.args.events.now few))
