-- All that came so far was served.
use Rattle.std.proofs.Common.{◌≡◌, ◌≤◌, [], false, length}
use Rattle.dns_crowd.proofs.Crowding.{Going, Stands}
use Rattle.dns_crowd.proofs.Wanting.{Keeping}
use Rattle.dns_crowd.proofs.worker.serve_all.Given as goal

abbrev pub invariant-loop : goal.invariant-loop
invariant-loop g l =
    ((goal.iterator-loop g).can_next l.iterator' × (goal.iterator-loop g).is_finite l.iterator')
    × (l.is_short ≡ false → Going (g.H.RequestHandler.serves l.access) g.C.Crowd.told l.fn.handler l.fn.crowd l.handler l.crowd l.connections)
    × Stands (g.H.RequestHandler.serves l.access) g.C.Crowd.told l.fn.handler l.fn.crowd l.crowd l.connections
    × (l.replies.items ≡ [])
    × (65535 ≤ length l.room)
    × Keeping (g.H.RequestHandler.serves l.access) g.H.RequestHandler.skips g.C.Crowd.told l.fn.handler l.fn.crowd l.handler l.crowd l.connections
