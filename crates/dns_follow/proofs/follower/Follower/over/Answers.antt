use Rattle.std.proofs.Common.{refl}
use Rattle.dns_follow.proofs.Storing.{leaves_of, leaves_unopened}
use Rattle.dns_follow.proofs.follower.Follower.over.Goals as goal

pub returns-in-Ok-open-clause-left : goal.returns-in-Ok-open-clause-left
returns-in-Ok-open-clause-left g c = leaves_of g.K.Keeper.keeper c.args.keeper c.in-Ok-open.store _ c.of.result c.in-Ok-open.ensures.left refl c.of.ensures.is

pub returns-in-Ok-open-clause-left_unopened : goal.returns-in-Ok-open-clause-left_unopened
returns-in-Ok-open-clause-left_unopened g c = leaves_unopened g.K.Keeper.keeper c.args.keeper c.in-Ok-open.store c.of.result c.in-Ok-open.ensures.left c.of.ensures.back
