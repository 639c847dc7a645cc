-- From datagram to datagram.
use Rattle.std.proofs.Common.{◌≡◌, ◌∙◌, ℕ, List, ◌++◌, length, take, drop, Option, ap, sym, subst, arith}
use Rattle.std.proofs.lemmas.List.{take_at}
use Rattle.dns_ports.specs.declared.port.Arrived.{Arrived}
use Rattle.dns_ports.specs.Ports.{GivesNext, GrowsBy, came_into}
use Rattle.dns_server.specs.Sockets.{Handles, ask_for}
use Rattle.dns_server.proofs.Handling.{Going-begun, Going-more, Works-nothing, Works-done, Works-failed}
use Rattle.dns_server.proofs.socket_worker.serve_socket.Goals as goal

pub returns-in_default : goal.returns-in_default
returns-in_default g c = Works-nothing _ _ _ _

pub loop-init : goal.loop-init
loop-init g c = ((tt, tt), Going-begun (g.H.RequestHandler.serves c.args.access.now) g.H.RequestHandler.skips g.U.UdpPort.told (record { handler = c.args.handler.now; port = c.args.socket.now }), c.in-Ok.ensures)

pub loop-preserved : goal.loop-preserved
loop-preserved g c =
    let room : List ℕ = c.receive.new.room in
    let size : length room ≡ c.loop.room.len = omega (arith, c.receive.auto.room, c.as_mut_slice.ensures.len) in
    let whole : take c.loop.room.len (room ++ drop (length room) c.loop.room.items) ≡ room = take_at room (drop (length room) c.loop.room.items) c.loop.room.len size in
    let front : c.split_at.result.0.now ≡ take c.in-Ok-Some.arrived.len room = c.split_at.ensures.front ∙ ap (λ (l : List ℕ). take c.in-Ok-Some.arrived.len l) (c.deref.ensures.value ∙ whole) in
    let handles = subst
    (λ (b : List ℕ). Handles (g.H.RequestHandler.serves c.args.access.now) g.H.RequestHandler.skips g.U.UdpPort.told
    (record { handler = c.loop.handler; port = c.receive.new.self }) (record { handler = c.handle-outcome.new.handler; port = c.handle-outcome.new.socket })
    (ask_for (b, c.in-Ok-Some.arrived.from, c.in-Ok-Some.arrived.at)) c.handle-outcome.result)
    front c.handle-outcome.ensures in
    let given = subst (λ (o : Option Arrived). GivesNext (g.U.UdpPort.told c.loop.socket).left (g.U.UdpPort.told c.receive.new.self).left (came_into room o)) c.in-Ok-Some.field-0-is c.in-Ok-Some.ensures.told.given in
    let grows = subst (λ (o : Option Arrived). GrowsBy (g.U.UdpPort.told c.loop.socket).received (g.U.UdpPort.told c.receive.new.self).received (came_into room o)) c.in-Ok-Some.field-0-is c.in-Ok-Some.ensures.told.grows in (
      (tt, tt),
      Going-more _ _ _ _ c.loop.handler c.loop.socket c.receive.new.self (take c.in-Ok-Some.arrived.len room, c.in-Ok-Some.arrived.from, c.in-Ok-Some.arrived.at) c.handle-outcome.new.handler c.handle-outcome.new.socket
          c.loop.is_short c.handle-outcome.result c.is_short_then-is_short.result c.loop.invariant.1 given grows c.receive.ensures.told.unanswered c.in-Ok-Some.ensures.told.counted handles
          (λ e. let f = c.is_short_then-is_short.ensures e in (f.0, sym c.found_memory.ensures ∙ f.1)),
      omega (arith, ap length whole, size, c.loop.room.ok, c.loop.invariant.2),
    )

pub returns-in-Ok-None : goal.returns-in-Ok-None
returns-in-Ok-None g c =
    let given = subst (λ (o : Option Arrived). GivesNext (g.U.UdpPort.told c.loop.socket).left (g.U.UdpPort.told c.receive.new.self).left (came_into c.receive.new.room o)) c.in-Ok-None.field-0-is c.in-Ok-None.ensures.told.given in
    let grows = subst (λ (o : Option Arrived). GrowsBy (g.U.UdpPort.told c.loop.socket).received (g.U.UdpPort.told c.receive.new.self).received (came_into c.receive.new.room o)) c.in-Ok-None.field-0-is c.in-Ok-None.ensures.told.grows in
    Works-done _ _ _ _ c.loop.handler c.loop.socket c.receive.new.self c.loop.is_short c.ended.result c.loop.invariant.1 given grows c.receive.ensures.told.unanswered c.in-Ok-None.ensures.told.counted c.ended.ensures

pub returns-in-Err : goal.returns-in-Err
returns-in-Err g c =
    Works-failed _ _ _ _ c.loop.handler c.loop.socket c.receive.new.self c.loop.is_short c.in-Err.fault c.loop.invariant.1 c.in-Err.ensures.told.kept c.in-Err.ensures.told.unreceived c.receive.ensures.told.unanswered
    c.in-Err.ensures.told.counted
