use Rattle.std.proofs.Common.{arith}
use Rattle.dns_name.proofs.Wire.{length-wire}
use Rattle.dns_name.proofs.view.NameView.len.Goals as goal

pub returns-clause-short : goal.returns-clause-short
returns-clause-short c = omega (arith, length-wire c.self.inside.wire.now c.self.invariant)
