-- From connection to connection.
use Rattle.std.proofs.Common.{subst}
use Rattle.dns_ports.specs.Ports.{GivesNext, GrowsBy}
use Rattle.dns_server.proofs.Attending.{Going-begun, Going-more, Works-done, Works-failed}
use Rattle.dns_server.proofs.listener_worker.serve_listener.Goals as goal

pub loop-init : goal.loop-init
loop-init g c = ((tt, tt), Going-begun _ _ _ _ (record { handler = c.args.handler.now; port = c.args.listener.now }))

pub loop-preserved : goal.loop-preserved
loop-preserved g c =
    let given = subst (GivesNext (g.T.TcpPort.told c.loop.listener).left (g.T.TcpPort.told c.accept.new.self).left) c.in-Ok-Some.field-0-is c.in-Ok-Some.ensures.told.given in
    let grows = subst (GrowsBy (g.T.TcpPort.told c.loop.listener).accepted (g.T.TcpPort.told c.accept.new.self).accepted) c.in-Ok-Some.field-0-is c.in-Ok-Some.ensures.told.grows in (
      (tt, tt),
      Going-more _ _ _ _ _ c.loop.handler c.loop.listener c.accept.new.self c.in-Ok-Some.connection c.attend-found.new.handler c.attend-found.new.listener
          c.loop.is_short c.attend-found.result c.is_short_then-is_short.result c.loop.invariant.1 given grows c.accept.ensures.told.unended c.in-Ok-Some.ensures.told.cause.counts c.attend-found.ensures c.is_short_then-is_short.ensures,
    )

pub returns-in-Ok-None : goal.returns-in-Ok-None
returns-in-Ok-None g c =
    let given = subst (GivesNext (g.T.TcpPort.told c.loop.listener).left (g.T.TcpPort.told c.accept.new.self).left) c.in-Ok-None.field-0-is c.in-Ok-None.ensures.told.given in
    let grows = subst (GrowsBy (g.T.TcpPort.told c.loop.listener).accepted (g.T.TcpPort.told c.accept.new.self).accepted) c.in-Ok-None.field-0-is c.in-Ok-None.ensures.told.grows in
    Works-done _ _ _ _ _ c.loop.handler c.loop.listener c.accept.new.self c.loop.is_short c.ended.result c.loop.invariant.1 given grows c.accept.ensures.told.unended c.in-Ok-None.ensures.told.cause.counts c.ended.ensures

pub returns-in-Err : goal.returns-in-Err
returns-in-Err g c =
    Works-failed _ _ _ _ _ c.loop.handler c.loop.listener c.accept.new.self c.loop.is_short c.in-Err.fault c.loop.invariant.1 c.in-Err.ensures.told.kept c.in-Err.ensures.told.unaccepted c.accept.ensures.told.unended c.accept.ensures.told.cause.later
    c.in-Err.ensures.told.cause.counts
