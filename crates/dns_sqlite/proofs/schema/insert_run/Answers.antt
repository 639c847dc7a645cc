use Rattle.std.proofs.Common.{false, subst, w64}
use Rattle.std.proofs.lemmas.Int.{to_z-of_z}
use Rattle.sqlite.specs.Held.{state}
use Rattle.sqlite.specs.State.{ExecutesInside}
use Rattle.sqlite.proofs.InsideLemmas.{inside_keeps}
use Rattle.dns_keeper.specs.declared.batch_row.BatchRow.{BatchRow}
use Rattle.dns_sqlite.proofs.Batches.{stays_inside, stays_open}
use Rattle.dns_sqlite.proofs.BatchTexts.{put_text}
use Rattle.dns_sqlite.proofs.Makes.{if_ok}
use Rattle.dns_sqlite.proofs.BatchMakes.{given_batch, puts_batch}
use Rattle.dns_sqlite.proofs.schema.insert_run.Goals as goal

pub returns-clause-done : goal.returns-clause-done
returns-clause-done g c =
    let old = state g.S.Store c.args.tx.now.conn.now in
    let new = state g.S.Store c.execute.new.self.conn.now in
    let b : BatchRow = record { first = c.args.first; count = c.args.count } in
    record {
      done = record {
        made = λ clean inside has.
            let ran : ExecutesInside 0 put_text (given_batch b) old new c.execute.result =
            rw (c.params-to_sql.ensures, c.params-to_sql-2.ensures, to_z-of_z w64 c.args.first c.ranges.first, to_z-of_z w64 c.args.count c.ranges.count) at (c.execute.ensures.runs clean inside) in
            if_ok c.execute.result _ (λ count is. puts_batch b old new count has (subst (ExecutesInside 0 put_text (given_batch b) old new) is ran));
        inside = λ clean inside. stays_inside _ _ _ _ c.execute.result (c.execute.ensures.runs clean inside);
        kept = λ clean inside. inside_keeps _ _ 0 false _ _ c.execute.result (c.execute.ensures.runs clean inside);
        survives = c.execute.ensures.survives;
      };
      opened = λ clean inside. stays_open _ _ _ _ c.execute.result (c.execute.ensures.runs clean inside);
    }
