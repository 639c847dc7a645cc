use Rattle.std.proofs.Common.{rules, ◌∷◌, [], refl, ap, ◌∙◌, length, length-append, arith}
use Rattle.std.specs.Vec.Iter.{into_iter_items}
use Rattle.dns_io.proofs.ToldContents.{Keeps-same}
use Rattle.dns_ports.specs.Ports.{IsFreshListener}
use Rattle.dns_server.specs.Servers.{ServerSeen}
use Rattle.dns_listeners.proofs.Crews.{IsCalm-nothing, IsCalm-more}
use Rattle.dns_listeners.proofs.Loops.{one_more, some_left, holds_of_next}
use Rattle.dns_listeners.proofs.ports.register_listeners.Goals as goal

pub register_listener-requires-clause-fresh : goal.register_listener-requires-clause-fresh
register_listener-requires-clause-fresh g c = holds_of_next (λ port. IsFreshListener (g.H.Tcp.TcpPort.told port)) c.loop-listener.yielded (into_iter_items c.loop-listener.listener-iterator) _ c.args.listeners.items _ c.loop-listener.invariant.1 c.in-Some.ensures.steps.0 c.requires.fresh

pub register_listener-requires-clause-out : goal.register_listener-requires-clause-out
register_listener-requires-clause-out g c =
    let kept = c.loop-listener.invariant in
    let more = some_left c.loop-listener.yielded (into_iter_items c.loop-listener.listener-iterator) _ c.args.listeners.items _ kept.1 c.in-Some.ensures.steps.0 in
    let longer = kept.6 in
    let out = kept.7 in
    let enough = c.requires.out in
    omega (arith, more, longer, out, enough)

pub loop-listener-init : goal.loop-listener-init
loop-listener-init g c = (
  (tt, tt),
  search rules,
  search rules,
  c.requires.manned,
  record { book = refl; access = refl },
  refl,
  omega arith,
  omega arith,
  (λ none. (omega arith, Keeps-same _)),
  IsCalm-nothing _,
)

pub loop-listener-preserved-then-not-register_listener : goal.loop-listener-preserved-then-not-register_listener
loop-listener-preserved-then-not-register_listener g c =
    let kept = c.loop-listener.invariant in
    let steps = c.in-Some.ensures.steps in
    let back = c.register_listener.ensures in
    let no = back.no c.if-not-register_listener.true in
    let same = ap (λ (s : ServerSeen g.row.H-Udp.Denot g.row.H-Tcp.Denot). length s.listeners) no.0 in
    let one = length-append c.loop-listener.yielded (c.in-Some.listener ∷ []) in (
      (tt, tt),
      one_more _ _ _ _ _ kept.1 steps.0,
      (let was = kept.2 in let gone = steps.1 in let short = ap length steps.0 in omega (arith, was, gone, short)),
      back.manned,
      record { book = back.same.book ∙ kept.4.book; access = back.same.access ∙ kept.4.access },
      back.sockets ∙ kept.5,
      (let was = kept.6 in omega (arith, was, same)),
      (let was = kept.7 in let out = no.1 in omega (arith, one, was, out, same)),
      (λ never. absurd (let e = never in cc)),
      IsCalm-more _ _ _ kept.9 back.calm,
    )
