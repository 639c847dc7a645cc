use Rattle.std.proofs.Common.{arith}
use Rattle.dns_update.proofs.Bytes.{authority_back}
use Rattle.dns_update.proofs.laws.read_updates.Goals as goal

pub returns : goal.returns
returns c = authority_back c.args.bytes.now (λ i. omega (arith, c.type_inv.bytes i))
