use Rattle.std.proofs.Common.{◌≡◌, ◌++◌, drop}
use Rattle.dns_update.specs.Verdict.{gathered_of}
use Rattle.dns_update.proofs.prerequisites.gathered_of.Given as goal

abbrev pub invariant-loop-one : goal.invariant-loop-one
invariant-loop-one l = l.gathered.items ++ gathered_of (drop l.one-index l.prerequisites) ≡ gathered_of l.prerequisites
