-- One more is open.
use Rattle.std.proofs.Common.{◌∙◌, ap}
use Rattle.dns_crowd.specs.Slots.{open_in}
use Rattle.dns_crowd.proofs.Placed.{put_open}
use Rattle.dns_crowd.proofs.sessions.put.Goals as goal

pub returns-clause-ok : goal.returns-clause-ok
returns-clause-ok c = ap open_in c.in_ok-push.ensures.items ∙ put_open c.args.slots.now.items c.args.session
