-- What was asked for was opened: one more opening gave it, and none failed.
use Rattle.std.proofs.Common.{Ok, subst}
use Rattle.dns_crowd_server.specs.Hubs.{OpensPlaces}
use Rattle.dns_crowd_server.specs.Memory.{SocketHubCounts, untold_crowd_hub}
use Rattle.dns_crowd_server.proofs.SocketsOpened.{sockets_opened}
use Rattle.dns_crowd_server.proofs.socket_hub.SocketCrowdHubCrowdHub.open.Goals as goal

pub returns-clause-told : goal.returns-clause-told
returns-clause-told g c =
    let before : SocketHubCounts = record {
      lent_sockets = c.self.inside.lent_sockets;
      lent_crowds = c.self.inside.lent_crowds;
      faults = c.self.inside.faults;
      opened_calls = c.self.inside.opened_calls;
      failed_calls = c.self.inside.failed_calls;
    } in
    let after : SocketHubCounts = record {
      lent_sockets = c.in-Some.lent.0;
      lent_crowds = c.in-Some.lent.1;
      faults = c.count_failed.new.faults;
      opened_calls = c.saturating_add-self-inside.result;
      failed_calls = c.count_failed.new.failed_calls;
    } in
    subst (λ (h : SocketHubCounts). OpensPlaces (untold_crowd_hub h) (untold_crowd_hub after) c.args.places.now (Ok c.in_ok-ports.ports)) c.self.view_is
    (sockets_opened before after c.args.places.now c.in_ok-ports.ports c.in-Some.ensures.0 c.in-Some.ensures.1 c.in_ok-ports.ensures.cause
    c.saturating_add-self-inside.ensures c.in_ok-ports.ensures.failing)
