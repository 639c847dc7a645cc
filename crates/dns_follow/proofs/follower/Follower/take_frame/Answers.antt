use Rattle.dns_follow.proofs.follower.Follower.take_frame.Goals as goal

pub returns-then-frame-eq0-clause-left : goal.returns-then-frame-eq0-clause-left
returns-then-frame-eq0-clause-left g c = c.hold.ensures.left c.args.moment
