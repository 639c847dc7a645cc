use Rattle.std.proofs.Common.{◌≡◌}
use Rattle.dns_gateway.proofs.Short.{short}
use Rattle.dns_gateway.proofs.https.message_of.Goals as goal

pub returns-clause-short : goal.returns-clause-short
returns-clause-short g c = short (c.message_from.new.request ≡ c.args.request.now) (c.message_from.new.request ≡ c.args.request.now) _ _ c.message_from.result c.message_from.ensures.refused c.message_from.ensures.queried
    c.message_from.ensures.kind
