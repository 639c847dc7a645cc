use Rattle.dns_generator.proofs.Quiet.{valid}
use Rattle.dns_generator.proofs.laws.valid_lists.Goals as goal

pub returns : goal.returns
returns c = valid
