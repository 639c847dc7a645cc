-- The connection of the piece goes, and the others stay.
use Rattle.std.proofs.Common.{[], List, false, subst, sym}
use Rattle.std.specs.List.{AllByRecursion}
use Rattle.dns_server_core.specs.declared.event.Event.TheVariants.{Bytes}
use Rattle.dns_server_core.specs.Connections.{Connection, Kept}
use Rattle.dns_crowd.specs.Tables.{IsTimed}
use Rattle.dns_crowd.proofs.Closings.{kept_lost}
use Rattle.dns_crowd.proofs.Timed.{ended_kept}
use Rattle.dns_crowd.proofs.connections.Connections.let_go.Goals as goal

pub invariant_of-self : goal.invariant_of-self
invariant_of-self c =
    let kept : Kept = record { last = c.self.inside.last; greatest = c.self.inside.greatest; stopped = false; connections = c.self.inside.sessions } in
    let n = kept_lost kept (Bytes c.in-Bytes.at c.in-Bytes.conn []) tt c.self.invariant.table in
    record {
      table = rw c.end.ensures (record { rests = n.rests; going = n.going; climbs = n.climbs; below = n.below });
      moment = c.self.invariant.moment;
      timed = subst (λ (l : List Connection). AllByRecursion (IsTimed c.self.inside.last c.self.inside.order) l) (sym c.end.ensures)
          (ended_kept c.self.inside.last c.in-Bytes.at c.in-Bytes.conn c.self.inside.order c.self.inside.sessions c.self.invariant.timed);
    }
