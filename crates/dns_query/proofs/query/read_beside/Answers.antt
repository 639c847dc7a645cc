use Rattle.dns_query.proofs.Whole.{beside_not}
use Rattle.dns_query.proofs.query.read_beside.Goals as goal

pub returns-in_default-clause-none : goal.returns-in_default-clause-none
returns-in_default-clause-none c = beside_not _ _ _ c.if-count-eq0.false c.in_default.ensures.none
