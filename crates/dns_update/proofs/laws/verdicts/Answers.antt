use Rattle.dns_update.proofs.Replayed.{passed}
use Rattle.dns_update.proofs.laws.verdicts.Goals as goal

pub returns : goal.returns
returns c = λ zone. passed zone.origin zone.records
