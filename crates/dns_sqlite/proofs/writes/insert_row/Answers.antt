use Rattle.std.proofs.Common.{false}
use Rattle.sqlite.specs.Held.{state}
use Rattle.sqlite.specs.State.{ExecutesInside}
use Rattle.sqlite.proofs.InsideLemmas.{inside_keeps}
use Rattle.dns_sqlite.proofs.Batches.{stays_inside, stays_open}
use Rattle.dns_sqlite.proofs.Texts.{insert_text}
use Rattle.dns_sqlite.proofs.Adds.{given_row, put_if_ok}
use Rattle.dns_sqlite.proofs.writes.insert_row.Goals as goal

pub returns-clause-done : goal.returns-clause-done
returns-clause-done g c =
    let old = state g.S.Store c.args.tx.now.conn.now in
    let new = state g.S.Store c.execute.new.self.conn.now in
    record {
      done = record {
        made = λ clean inside has.
            let ran : ExecutesInside 0 insert_text (given_row c.args.client c.args.serial c.args.stamp.now c.args.bytes.now) old new c.execute.result =
            rw (c.params-to_sql.ensures, c.params-to_sql-2.ensures, c.params-to_sql-3.ensures, c.params-to_sql-4.ensures) at (c.execute.ensures.runs clean inside) in
            put_if_ok c.args.client c.args.serial c.args.stamp.now c.args.bytes.now old new c.execute.result has ran;
        inside = λ clean inside. stays_inside _ _ _ _ c.execute.result (c.execute.ensures.runs clean inside);
        kept = λ clean inside. inside_keeps _ _ 0 false _ _ c.execute.result (c.execute.ensures.runs clean inside);
        survives = c.execute.ensures.survives;
      };
      opened = λ clean inside. stays_open _ _ _ _ c.execute.result (c.execute.ensures.runs clean inside);
    }
