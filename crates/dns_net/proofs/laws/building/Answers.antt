use Rattle.dns_net.proofs.LetIn.{let-in}
use Rattle.dns_net.proofs.laws.building.Goals as goal

pub returns : goal.returns
returns c = let-in
