-- One is found exactly where one has the number.
use Rattle.std.proofs.Common.{◌∙◌, ap, sym}
use Rattle.dns_server_core.specs.Connections.{Connection}
use Rattle.dns_crowd.proofs.Placed.{has_at, has_none}
use Rattle.dns_crowd.proofs.sessions.Sessions.has.Goals as goal

pub returns-in_default : goal.returns-in_default
returns-in_default c = sym (has_none c.args.self.now c.args.number c.in_default.ensures.none)

pub returns : goal.returns
returns c =
    let one = c.in-Some.ensures.some in
    let k : Connection = c.in-Some._session.now in
    sym (has_at c.args.self.now one.at k c.args.number one.inside (ap (λ (j : Connection). j.number) (one.is k) ∙ one.of_number))
