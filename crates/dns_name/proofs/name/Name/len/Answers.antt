use Rattle.std.proofs.Common.{ap, arith, length}
use Rattle.dns_name.specs.NameBuffer.{labels_of}
use Rattle.dns_name.proofs.Wire.{length-labels_bytes}
use Rattle.dns_name.proofs.name.Name.len.Goals as goal

pub returns-clause-bytes : goal.returns-clause-bytes
returns-clause-bytes c =
    rw (← c.self.view_is) (omega (arith, c.len.ensures, ap length c.self.invariant.spelled, length-labels_bytes (labels_of c.self.inside.wire.items), c.self.inside.wire.ok.0))
