use Rattle.dns_name.specs.Name.{IsName}
use Rattle.dns_wire.specs.Kept.{AreOfBytes}
use Rattle.dns_wire.proofs.kept.kept_name.Given as goal

abbrev pub invariant-loop-label : goal.invariant-loop-label
invariant-loop-label l = IsName l.name × (AreOfBytes l.labels → AreOfBytes l.name)
