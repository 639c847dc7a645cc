-- There is one more pass.
use Rattle.std.proofs.Common.{arith}
use Rattle.std.specs.Vec.Iter.{into_iter_items}
use Rattle.dns_crowd_server.proofs.AllPasses.{some_free, some_left}
use Rattle.dns_crowd_server.proofs.rooms.take_on.Goals as goal

pub remove-pass-requires : goal.remove-pass-requires
remove-pass-requires g c =
    let kept = c.loop-port.invariant in
    let more = some_left c.loop-port.yielded (into_iter_items c.loop-port.port-iterator) _ c.args.ports.items _ kept.1 c.in-Some.ensures.steps.0 in
    let some = some_free c.loop-port.workers.items c.loop-port.yielded c.args.ports.items c.args.free.now.items c.loop-port.free.items kept.3 more kept.4 c.requires.passes in
    omega (arith, some)
