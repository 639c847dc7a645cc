use Rattle.dns_update.proofs.Serials.{step_same}
use Rattle.dns_update.proofs.laws.serials.Goals as goal

pub returns : goal.returns
returns c = step_same
