use Rattle.std.proofs.Common.{Some, None, refl, ap, ◌∙◌}
use Rattle.dns_book.specs.Book.{SeenOf}
use Rattle.dns_command.proofs.Endings.{refused, answered, answers, unsettled}
use Rattle.dns_command.proofs.Counting.{tells}
use Rattle.dns_command.proofs.run_list.run_list.Goals as goal

pub returns-in-Err-clause-ends : goal.returns-in-Err-clause-ends
returns-in-Err-clause-ends g c = (
  None,
  refl,
  tells g.K.Keeper.keeper _ _ (refused g.K.Keeper.keeper _ _ _ (record { cause = c.in-Err.ensures.err; kept = c.in-Err.ensures.kept }) c.refuse.ensures.ends),
)

pub returns-in-Ok-settle_events-clause-ends : goal.returns-in-Ok-settle_events-clause-ends
returns-in-Ok-settle_events-clause-ends g c =
    let settled = c.in-Ok-settle_events.ensures.ok in
    let left = c.into_keeper.ensures.keeper ∙ ap (λ (b : SeenOf g.row.K.Denot). b.keeper) c.into_book.ensures in
    let kept = rw c.into_book.ensures at c.into_keeper.ensures.book in (
      Some c.now-moment.result,
      (c.now-moment.ensures.next, c.now-moment.ensures.reading),
      tells g.K.Keeper.keeper _ _
          (answered g.K.Keeper.keeper _ _ _ (answers g.K.Keeper.keeper _ _ _ _ _ _ _ _ _ _ c.in-Ok.ensures.ok c.in-Ok.ensures.kept c.in-Ok.ensures.batches c.in-Ok.ensures.still _ _ settled left kept) c.finish.ensures.ends),
    )

pub returns-in-Err-settle_events-clause-ends : goal.returns-in-Err-settle_events-clause-ends
returns-in-Err-settle_events-clause-ends g c = (
  Some c.now-moment.result,
  (c.now-moment.ensures.next, c.now-moment.ensures.reading),
  tells g.K.Keeper.keeper _ _
      (unsettled g.K.Keeper.keeper _ _ _ _ _ _ _ _ _ _ c.in-Ok.ensures.ok c.in-Ok.ensures.kept c.in-Ok.ensures.batches c.in-Ok.ensures.still _ _ c.in-Err-settle_events.ensures.err c.refuse-in-Err-settle_events.ensures.ends),
)
