use Rattle.std.proofs.Common.{false, subst, []}
use Rattle.sqlite.specs.Held.{state}
use Rattle.sqlite.specs.State.{ExecutesInside}
use Rattle.sqlite.proofs.InsideLemmas.{inside_keeps}
use Rattle.dns_sqlite.proofs.Batches.{stays_inside, stays_open}
use Rattle.dns_sqlite.proofs.BatchTexts.{create_batch_table}
use Rattle.dns_sqlite.proofs.Makes.{if_ok}
use Rattle.dns_sqlite.proofs.BatchMakes.{makes_batches}
use Rattle.dns_sqlite.proofs.schema.create_batch_table.Goals as goal

pub returns-clause-done : goal.returns-clause-done
returns-clause-done g c =
    let old = state g.S.Store c.args.tx.now.conn.now in
    let new = state g.S.Store c.execute.new.self.conn.now in
    record {
      done = record {
        made = λ clean inside was. if_ok c.execute.result _ (λ count is. makes_batches old new count was (subst (ExecutesInside 0 create_batch_table [] old new) is (c.execute.ensures.runs clean inside)));
        inside = λ clean inside. stays_inside _ _ _ _ c.execute.result (c.execute.ensures.runs clean inside);
        kept = λ clean inside. inside_keeps _ _ 0 false _ _ c.execute.result (c.execute.ensures.runs clean inside);
        survives = c.execute.ensures.survives;
      };
      opened = λ clean inside. stays_open _ _ _ _ c.execute.result (c.execute.ensures.runs clean inside);
    }
