use Rattle.std.proofs.Common.{rules}
use Rattle.dns_follow.proofs.Storing.{sound_of_store}
use Rattle.dns_follow.proofs.follower.Follower.of.Goals as goal

pub invariant_of-result : goal.invariant_of-result
invariant_of-result g c =
    rw (c.into_parts-keeper.ensures.keeper, c.into_parts-keeper.ensures.zone, c.into_parts-keeper.ensures.row_count, c.new.ensures.items, c.new-2.ensures.items)
    (sound_of_store g.K.Keeper.keeper c.args.store c.args.origin c.requires.named c.requires.folded c.into_parts-keeper.ensures.stored (search rules))
