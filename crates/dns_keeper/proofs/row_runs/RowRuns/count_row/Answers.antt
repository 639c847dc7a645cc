use Rattle.std.proofs.Common.{Some, sym, ap, subst, ◌∙◌}
use Rattle.dns_keeper.specs.declared.row_runs.Maker.{Maker}
use Rattle.dns_keeper.specs.Batches.{goes_on, grown}
use Rattle.dns_keeper.specs.RunsSoFar.{is_made_by, AreRunsOf}
use Rattle.dns_keeper.proofs.RunsGrow.{runs_grow, goes_on-more}
use Rattle.dns_keeper.proofs.row_runs.RowRuns.count_row.Goals as goal

pub returns : goal.returns
returns c rows so_far = let so = subst (AreRunsOf rows) (sym c.self.view_is) so_far in record {
  batches =
      c.in_ok-add_row.ensures ∙ ap (λ j. grown j c.args.row.now.id c.self.inside.batches.items) (c.is_made_by-joins.ensures ∙ so.last c.args.row.now)
      ∙ ap (λ bs. grown (goes_on rows c.args.row.now) c.args.row.now.id bs) so.batches ∙ sym (runs_grow rows c.args.row.now);
  last = λ r. ap (λ (m : Maker). is_made_by (Some m) r) c.maker_of.ensures ∙ sym (goes_on-more rows c.args.row.now r);
}
