use Rattle.std.proofs.Common.{subst}
use Rattle.dns_name.specs.Name.{fold_of}
use Rattle.dns_store.specs.declared.front.FrontState.{FrontState}
use Rattle.dns_store.specs.Front.{IsTakenFront}
use Rattle.dns_store.proofs.FrontRows.{ends_there}
use Rattle.dns_store.proofs.front.finish.Goals as goal

pub returns-in-Refused-clause-err : goal.returns-in-Refused-clause-err
returns-in-Refused-clause-err c = λ origin rows taken.
    ends_there (fold_of origin) rows c.in-Refused.fault (subst (λ (state : FrontState). IsTakenFront origin state rows) c.in-Refused.is taken)
