use Rattle.dns_zone.proofs.lookup.+follow.Given as goal

abbrev pub decreases-follow : goal.decreases-follow
decreases-follow l = l.more
