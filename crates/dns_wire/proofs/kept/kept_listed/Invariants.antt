use Rattle.std.proofs.Common.{take, map}
use Rattle.std.specs.List.{AllByRecursion}
use Rattle.dns_wire.specs.Kept.{IsKept}
use Rattle.dns_wire.proofs.kept.kept_listed.Given as goal

abbrev pub invariant-loop-one : goal.invariant-loop-one
invariant-loop-one l = AllByRecursion IsKept (map (λ r. r.now) (take l.one-index l.records))
