use Rattle.dns_sqlite.proofs.Statements.{refused_first}
use Rattle.dns_sqlite.proofs.BatchMakes.{fills_batches}
use Rattle.dns_sqlite.proofs.schema.fill_batches.Goals as goal

pub returns-in_err-insert_batch_rows-clause-done : goal.returns-in_err-insert_batch_rows-clause-done
returns-in_err-insert_batch_rows-clause-done g c = refused_first g.S.Store _ _ _ _ _ _ _ c.from_residual.result c.from_residual.ensures.0 c.in_err-insert_batch_rows.ensures.done

pub returns-clause-done : goal.returns-clause-done
returns-clause-done g c =
    let batches = c.args.batches.now in
    fills_batches g.S.Store batches c.args.tx.now.conn.now c.insert_batch_rows.new.tx.conn.now c.raise_to_two.new.tx.conn.now _ _ c.in_ok-insert_batch_rows.ensures.done c.raise_to_two.ensures.done
