-- First the sockets are handed back, then the listeners.
use Rattle.std.proofs.Common.{◌≡◌, ◌⊎◌, List, length, sym, ap, subst, ◌∙◌, arith}
use Rattle.std.proofs.lemmas.List.{length-map}
use Rattle.dns_io.specs.Told.{Grows}
use Rattle.dns_io.proofs.ToldContents.{Keeps-more, Grows-Keeps, Keeps-Grows}
use Rattle.dns_server.specs.Servers.{ServerSeen, their_ports}
use Rattle.dns_listeners.specs.Hubs.{AnyFault}
use Rattle.dns_listeners.proofs.Crews.{all_raised, all_calm}
use Rattle.dns_listeners.proofs.ports.take_back.Goals as goal

pub returns-clause-back : goal.returns-clause-back
returns-clause-back g c =
    let first = c.close_sockets.ensures in
    let second = c.close_listeners.ensures in
    let us : c.sockets.result.items ≡ their_ports c.args.server.now.sockets = c.sockets.ensures.ports in
    let ts : c.listeners.result.items ≡ their_ports c.args.server.now.listeners =
    c.listeners.ensures.ports ∙ ap (λ (s : ServerSeen g.row.H-Udp.Denot g.row.H-Tcp.Denot). their_ports s.listeners) c.sockets.ensures.after in
    record {
      opened = Keeps-more _ _ _ first.opened second.opened;
      sockets = subst (λ (l : List g.row.H-Udp.Denot). Grows (g.H.Hub.told c.args.hub.now).closed_udp (g.H.Hub.told c.close_listeners.new.hub).closed_udp l) us
          (Grows-Keeps _ _ _ _ first.back second.sockets);
      listeners = subst (λ (l : List g.row.H-Tcp.Denot). Grows (g.H.Hub.told c.args.hub.now).closed_tcp (g.H.Hub.told c.close_listeners.new.hub).closed_tcp l) ts
          (Keeps-Grows _ _ _ _ first.listeners second.back);
      sockets_out =
          let x = first.out in let y = second.sockets_out in let z = ap length us ∙ length-map c.args.server.now.sockets (λ w. w.port) in omega (arith, x, y, z);
      listeners_out =
          let x = first.listeners_out in let y = second.out in let z = ap length ts ∙ length-map c.args.server.now.listeners (λ w. w.port) in omega (arith, x, y, z);
      calls = second.calls ∙ first.calls;
      unfailed = second.unfailed ∙ first.unfailed;
      later = let x = first.later in let y = second.later in omega (arith, x, y);
      raised = all_raised _ _ _
          (λ any. first.raised (subst (λ (l : List g.row.H-Udp.Denot). AnyFault (λ port. (g.H.Udp.UdpPort.told port).faults) l) (sym us) any))
          (λ any. second.raised (subst (λ (l : List g.row.H-Tcp.Denot). AnyFault (λ port. (g.H.Tcp.TcpPort.told port).faults) l) (sym ts) any))
          first.later second.later;
      calm = all_calm _ _ _
          (subst (λ (l : List g.row.H-Udp.Denot). ((g.H.Hub.told c.close_sockets.new.hub).faults ≡ (g.H.Hub.told c.args.hub.now).faults) ⊎ AnyFault (λ port. (g.H.Udp.UdpPort.told port).faults) l) us first.calm)
          (subst (λ (l : List g.row.H-Tcp.Denot). ((g.H.Hub.told c.close_listeners.new.hub).faults ≡ (g.H.Hub.told c.close_sockets.new.hub).faults) ⊎ AnyFault (λ port. (g.H.Tcp.TcpPort.told port).faults) l) ts second.calm);
    }
