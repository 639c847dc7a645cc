use Rattle.dns_sqlite.proofs.Statements.{refused_on}
use Rattle.dns_sqlite.proofs.writes.insert_some_rows.Goals as goal

pub returns-in_err-id-clause-done : goal.returns-in_err-id-clause-done
returns-in_err-id-clause-done g c = refused_on g.S.Store _ _ _ _ _ _ _ c.from_residual.result c.from_residual.ensures.0 c.in_err-id.ensures.done.done
