use Rattle.std.proofs.Common.{Some, None, Err, refl, ap, ◌∙◌}
use Rattle.dns_command.proofs.ServingEndings.{refused, closing}
use Rattle.dns_serve.specs.Serving.{at_finding, unserved}
use Rattle.dns_serve.proofs.Endings.{opens_none, serves, stops}
use Rattle.dns_serve.proofs.run.serve.Goals as goal

pub returns-in-Err-clause-ends : goal.returns-in-Err-clause-ends
returns-in-Err-clause-ends g c = (
  None,
  refl,
  λ words legal. refused _ _ _ _ _ (unserved (at_finding c.args.service legal c.in-Err.ensures.err c.in-Err.ensures.kept refl) refl refl) c.refuse.ensures.ends,
)

pub returns-in-Err-open_book-clause-ends : goal.returns-in-Err-open_book-clause-ends
returns-in-Err-open_book-clause-ends g c = (
  Some c.now-moment.result,
  (c.now-moment.ensures.next, c.now-moment.ensures.reading),
  λ words legal. refused _ _ _ _ _
      (opens_none _ _ _ _ _ _ _ _ _ _ legal _ _ c.in-Ok.ensures.kept c.in-Ok.ensures.batches c.in-Ok.ensures.still _ c.in-Ok.ensures.ok _
      c.in-Err-open_book.ensures.err c.in-Err-open_book.ensures.kept refl refl)
      c.refuse-in-Err-open_book.ensures.ends,
)

pub returns-in-Ok-answer-clause-ends : goal.returns-in-Ok-answer-clause-ends
returns-in-Ok-answer-clause-ends g c = (
  Some c.now-moment.result,
  (c.now-moment.ensures.next, c.now-moment.ensures.reading),
  λ words legal. closing _ _ _ _ _
      (serves _ _ _ _ _ _ _ _ _ _ legal _ _ c.in-Ok.ensures.kept c.in-Ok.ensures.batches c.in-Ok.ensures.still _ c.in-Ok.ensures.ok
      c.in-Ok-open_book.book c.serve_opened-book.result.book c.serve_opened-book.result.answer c.in-Ok-open_book.ensures.ok c.into_keeper.ensures.keeper
      c.serve_opened-book.ensures.ends c.in-Ok-answer.is)
      c.finish.ensures.ends,
)

pub returns-in-Err-answer-clause-ends : goal.returns-in-Err-answer-clause-ends
returns-in-Err-answer-clause-ends g c = (
  Some c.now-moment.result,
  (c.now-moment.ensures.next, c.now-moment.ensures.reading),
  λ words legal. refused _ _ _ _ _
      (rw c.port_status.ensures (stops _ _ _ _ _ _ _ _ _ _ legal _ _ c.in-Ok.ensures.kept c.in-Ok.ensures.batches c.in-Ok.ensures.still _ c.in-Ok.ensures.ok
      c.in-Ok-open_book.book c.serve_opened-book.result.book c.serve_opened-book.result.answer c.in-Err-answer.fault c.in-Ok-open_book.ensures.ok
      c.into_keeper-in-Err-answer.ensures.keeper c.serve_opened-book.ensures.ends c.in-Err-answer.is
      (λ f. c.serve_opened-book.ensures.failed (c.in-Err-answer.is ∙ ap Err f))))
      c.refuse-in-Err-answer.ensures.ends,
)
