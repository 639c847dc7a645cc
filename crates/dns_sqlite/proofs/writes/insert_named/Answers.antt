use Rattle.dns_sqlite.proofs.Statements.{refused}
use Rattle.dns_sqlite.proofs.writes.insert_named.Goals as goal

pub returns-in_err-_count-clause-done : goal.returns-in_err-_count-clause-done
returns-in_err-_count-clause-done g c = refused g.S.Store _ _ _ _ _ _ _ c.from_residual.result c.from_residual.ensures.0 c.in_err-_count.ensures.done
