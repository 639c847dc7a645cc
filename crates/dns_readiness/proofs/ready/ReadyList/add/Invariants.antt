-- Those that were looked at are sorted.
use Rattle.std.proofs.Common.{◌≡◌, ◌≤◌, ◌+◌, take}
use Rattle.dns_readiness.specs.Ready.{put_all}
use Rattle.dns_readiness.proofs.ready.ReadyList.add.Given as goal

abbrev pub invariant-loop-event : goal.invariant-loop-event
invariant-loop-event l =
    record {
      sorted : l.self ≡ record (put_all (take l.event-index l.events) l.fn.self) { spare = l.self.spare };
      spare : l.fn.self.spare ≤ l.self.spare + l.event-index;
    }
