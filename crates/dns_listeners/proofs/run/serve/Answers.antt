use Rattle.std.proofs.Common.{Some, None, refl}
use Rattle.dns_listeners.specs.Serving.{at_finding, unserved}
use Rattle.dns_command.proofs.ServingEndings.{refused, closing}
use Rattle.dns_listeners.proofs.ServeEndings.{serves, serves_none}
use Rattle.dns_listeners.proofs.run.serve.Goals as goal

pub returns-in-Err-clause-ends : goal.returns-in-Err-clause-ends
returns-in-Err-clause-ends g c = (
  None,
  refl,
  λ words legal. refused _ _ _ _ _ (unserved (at_finding c.args.service legal c.in-Err.ensures.err c.in-Err.ensures.kept refl) refl refl) c.refuse.ensures.ends,
)

pub returns-in-Ok-serve_opened-clause-ends : goal.returns-in-Ok-serve_opened-clause-ends
returns-in-Ok-serve_opened-clause-ends g c =
    let served = c.in-Ok-serve_opened.ensures.ok in (
      Some c.now-moment.result,
      (c.now-moment.ensures.next, c.now-moment.ensures.reading),
      λ words legal. closing _ _ _ _ _
          (serves _ _ _ _ _ _ _ _ _ _ legal _ _ c.in-Ok.ensures.kept c.in-Ok.ensures.batches c.in-Ok.ensures.still _ c.in-Ok.ensures.ok served.first _ served.begun served.served c.into_keeper.ensures.keeper)
          c.finish.ensures.ends,
    )

pub returns-in-Err-serve_opened-clause-ends : goal.returns-in-Err-serve_opened-clause-ends
returns-in-Err-serve_opened-clause-ends g c = (
  Some c.now-moment.result,
  (c.now-moment.ensures.next, c.now-moment.ensures.reading),
  λ words legal. refused _ _ _ _ _
      (serves_none _ _ _ _ _ _ _ _ _ _ legal _ _ c.in-Ok.ensures.kept c.in-Ok.ensures.batches c.in-Ok.ensures.still _ c.in-Ok.ensures.ok _ c.in-Err-serve_opened.ensures.err)
      c.refuse-in-Err-serve_opened.ensures.ends,
)
