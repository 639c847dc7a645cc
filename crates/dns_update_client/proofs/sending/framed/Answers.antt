use Rattle.std.proofs.Common.{arith}
use Rattle.dns_update_client.specs.Framed.{frame}
use Rattle.dns_update_client.proofs.sending.framed.Goals as goal

pub returns : goal.returns
unfolding frame
returns c = grind arith
