-- Workers that serve a crowd of connections each, by the passes of a shared book.
use Rattle.std.specs.Prelude.{◌≡◌}
use Rattle.dns_keeper.specs.Keeping.{KeeperOf}
use Rattle.dns_book.specs.Access.{Access}
use Rattle.dns_ticket_lock.specs.Passes.{IsSame, SettledBy, LeftBy}
use Rattle.dns_crowd.specs.Crowds.{CrowdTold}
use Rattle.dns_crowd.specs.Turns.{ServesCrowd}
use Rattle.dns_server.specs.declared.worker.Worker.{Worker}
use Rattle.dns_crowd_server.specs.Stamps.{AtSomeMoment}

-- the meanings of a keeper and of a crowd, and who is let in
module _ {K C : Type 0} (keeper : KeeperOf K) (crowd : C → CrowdTold) (access : Access) where
  -- what a worker of a crowd did, by its own pass: the messages that came over any of its connections are one list of events, and each was
  -- settled at the system's time at that moment
  pub record ServedCrowd (before after : Worker C) : Type 0 where
    pub same : IsSame before.pass after.pass
    pub limit : after.limit ≡ before.limit
    pub works : ServesCrowd (AtSomeMoment (SettledBy keeper access)) LeftBy crowd before.pass before.port after.pass after.port after.answer
