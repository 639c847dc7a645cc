-- One more, which did not fail.
use Rattle.std.proofs.Common.{◌≡◌, ◌∷◌, [], List, All, ap, arith, length, length-append, subst, sym}
use Rattle.std.proofs.lemmas.List.Elements.{All-push}
use Rattle.dns_readiness.specs.Decisions.{SocketState}
use Rattle.dns_crowd_server.proofs.socket_hub.crowds_over.Goals as goal

pub loop-place-preserved : goal.loop-place-preserved
loop-place-preserved g c =
    let kept = c.loop-place.invariant in
    let longer = ap length c.in_ok-put.ensures in
    let count = length-append c.loop-place.crowds.items (c.in_ok-crowd.crowd ∷ []) in
    let so_far = kept.0 in (
      omega (arith, longer, count, so_far),
      subst (λ (l : List SocketState). All (λ (one : SocketState). one.faults ≡ 0) l) (sym c.in_ok-put.ensures)
          (All-push (λ (one : SocketState). one.faults ≡ 0) c.loop-place.crowds.items c.in_ok-crowd.crowd kept.1 c.in_ok-crowd.ensures.fresh),
    )
