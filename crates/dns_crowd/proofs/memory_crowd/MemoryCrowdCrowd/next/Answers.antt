-- The first of what is to come is given.
use Rattle.std.proofs.Common.{Ok, Some, subst}
use Rattle.dns_crowd.specs.Crowds.{Gives}
use Rattle.dns_crowd.specs.Memory.{CrowdState, crowd_told}
use Rattle.dns_crowd.proofs.ToCome.{gives_first}
use Rattle.dns_crowd.proofs.memory_crowd.MemoryCrowdCrowd.next.Goals as goal

pub returns : goal.returns
returns c =
    let s : CrowdState = record {
      left = c.self.inside.coming.items;
      taken = c.self.inside.taken.items;
      closed = c.self.inside.closed.items;
      last = c.self.inside.last;
      greatest = c.self.inside.greatest;
      failing_nexts = c.self.inside.failing_nexts.items;
      failing_sends = c.self.inside.failing_sends.items;
      nexts = c.self.inside.nexts;
      sends = c.self.inside.sends;
      faults = c.self.inside.faults;
    } in
    record {
      told = subst
          (λ (v : CrowdState). Gives (crowd_told v) (crowd_told (record s { left = c.pop_front.new.self.items; last = c.moment-self-inside.result; greatest = c.greatest_behind-self-inside.result })) c.put-came.new.room
          (Ok (Some c.put-came.result)))
          c.self.view_is
          (gives_first s c.in-Some.coming c.pop_front.new.self.items c.put-came.new.room c.put-came.result c.moment-self-inside.result c.greatest_behind-self-inside.result c.in-Some.ensures.items c.self.invariant
          c.put-came.ensures.came c.put-came.ensures.size c.moment-self-inside.ensures c.greatest_behind-self-inside.ensures);
    }
