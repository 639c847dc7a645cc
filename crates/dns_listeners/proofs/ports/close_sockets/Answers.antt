use Rattle.std.proofs.Common.{rules, ◌≡◌, ◌⊎◌, inl, ◌∷◌, [], List, refl, sym, ap, subst, ◌∙◌, length, length-append, arith}
use Rattle.std.specs.Vec.Iter.{into_iter_items}
use Rattle.dns_io.specs.Told.{Grows}
use Rattle.dns_io.proofs.ToldContents.{Keeps-same, Keeps-more, Grows-nothing, Grows-more}
use Rattle.dns_listeners.specs.Hubs.{AnyFault}
use Rattle.dns_listeners.proofs.Loops.{one_more, all_done, some_left, rose_more, calm_more}
use Rattle.dns_listeners.proofs.ports.close_sockets.Goals as goal

pub loop-socket-init : goal.loop-socket-init
loop-socket-init g c = ((tt, tt), search rules, search rules, Grows-nothing _, search rules, Keeps-same _, Keeps-same _, refl, refl, refl, search rules, (λ none. absurd none), inl refl)

pub close_udp-requires : goal.close_udp-requires
close_udp-requires g c =
    let kept = c.loop-socket.invariant in
    let more = some_left c.loop-socket.yielded (into_iter_items c.loop-socket.socket-iterator) _ c.args.sockets.items _ kept.1 c.in-Some.ensures.steps.0 in
    let out = kept.4 in
    let enough = c.requires in
    omega (arith, more, out, enough)

pub loop-socket-preserved : goal.loop-socket-preserved
loop-socket-preserved g c =
    let kept = c.loop-socket.invariant in
    let steps = c.in-Some.ensures.steps in
    let closed = c.close_udp.ensures.told in
    let one = length-append c.loop-socket.yielded (c.in-Some.socket ∷ []) in (
      (tt, tt),
      one_more _ _ _ _ _ kept.1 steps.0,
      (let was = kept.2 in let gone = steps.1 in let short = ap length steps.0 in omega (arith, was, gone, short)),
      Grows-more _ _ _ _ _ kept.3 closed.grows,
      (let was = kept.4 in let out = closed.udp_lent in omega (arith, one, was, out)),
      Keeps-more _ _ _ kept.5 closed.kept,
      Keeps-more _ _ _ kept.6 closed.tcp_kept,
      closed.tcp_lent ∙ kept.7,
      closed.none_made ∙ kept.8,
      closed.none_failed ∙ kept.9,
      (let was = kept.10 in let later = closed.cause.later in omega (arith, was, later)),
      rose_more _ _ _ _ _ _ kept.11 kept.10 closed.cause.later closed.cause.raised,
      calm_more _ _ _ _ _ _ kept.12 closed.cause,
    )

pub returns : goal.returns
returns g c =
    let kept = c.loop-socket.invariant in
    let all = all_done c.loop-socket.yielded (into_iter_items c.loop-socket.socket-iterator) c.args.sockets.items kept.1 (sym kept.2 ∙ c.in-None.ensures.steps.0) in
    record {
      back = subst (λ (l : List g.row.H-Udp.Denot). Grows (g.H.Hub.told c.args.hub.now).closed_udp (g.H.Hub.told c.loop-socket.hub).closed_udp l) all kept.3;
      out = let n = ap length all in let was = kept.4 in omega (arith, n, was);
      opened = kept.5;
      listeners = kept.6;
      listeners_out = kept.7;
      calls = kept.8;
      unfailed = kept.9;
      later = kept.10;
      raised = λ any. kept.11 (subst (λ (l : List g.row.H-Udp.Denot). AnyFault (λ port. (g.H.Udp.UdpPort.told port).faults) l) (sym all) any);
      calm = subst (λ (l : List g.row.H-Udp.Denot). ((g.H.Hub.told c.loop-socket.hub).faults ≡ (g.H.Hub.told c.args.hub.now).faults) ⊎ AnyFault (λ port. (g.H.Udp.UdpPort.told port).faults) l) all kept.12;
    }
