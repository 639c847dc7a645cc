-- All passes and all ports are handed in.
use Rattle.std.proofs.Common.{◌≡◌, ◌++◌, List, subst, subst₂}
use Rattle.dns_ticket_lock.specs.Passes.{ClosedFor, PassSeen}
use Rattle.dns_server.specs.Servers.{their_passes}
use Rattle.dns_crowd_server.specs.Hubs.{ClosesPlaces, their_faults}
use Rattle.dns_crowd_server.proofs.AllPasses.{all_back}
use Rattle.dns_crowd_server.proofs.serving.hand_back.Goals as goal

pub close-requires-2 : goal.close-requires-2
close-requires-2 g c =
    let all : c.dismiss-crowds.new.free.items ≡ their_passes c.args.sockets.items ++ their_passes c.args.crowds.items =
    all_back c.args.free.items c.dismiss-sockets.new.free.items c.dismiss-crowds.new.free.items c.args.sockets.items c.args.crowds.items c.requires.free c.dismiss-sockets.ensures.free c.dismiss-crowds.ensures.free in
    record { all = rw all c.requires.all }

pub returns-clause-closed : goal.returns-clause-closed
returns-clause-closed g c =
    let all : c.dismiss-crowds.new.free.items ≡ their_passes c.args.sockets.items ++ their_passes c.args.crowds.items =
    all_back c.args.free.items c.dismiss-sockets.new.free.items c.dismiss-crowds.new.free.items c.args.sockets.items c.args.crowds.items c.requires.free c.dismiss-sockets.ensures.free c.dismiss-crowds.ensures.free in
    subst (λ (l : List PassSeen). ClosedFor g.K.Keeper.keeper c.args.shared.terms l c.close-2.result) all c.close-2.ensures

pub returns-clause-told : goal.returns-clause-told
returns-clause-told g c =
    subst₂
    (λ (us : List g.row.H-Udp.Denot) (cs : List g.row.H-Connections.Denot).
    ClosesPlaces (g.H.CrowdHub.told c.args.hub.now) (g.H.CrowdHub.told c.close.new.self) us cs (their_faults g.H.Udp.UdpPort.told g.H.Connections.Crowd.told us cs))
    c.dismiss-sockets.ensures.ports c.dismiss-crowds.ensures.ports c.close.ensures.told
