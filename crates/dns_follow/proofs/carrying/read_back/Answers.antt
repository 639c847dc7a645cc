use Rattle.std.proofs.Common.{length, arith}
use Rattle.dns_follow.proofs.carrying.read_back.Goals as goal

pub returns : goal.returns
returns c = λ r at. c.standing_records.ensures.back c.args.bytes.now 0 (length c.args.bytes.now) r (λ k. omega (arith, c.type_inv.bytes k)) at
