use Rattle.std.proofs.Common.{◌≡◌, take, replicate}
use Rattle.dns_wire.specs.Given.{kinds}
use Rattle.dns_counts.proofs.lent.are_of.Given as goal

abbrev pub invariant-loop-one : goal.invariant-loop-one
invariant-loop-one l = kinds (take l.one-index l.records) ≡ replicate l.one-index (l.rtype, l.class)
