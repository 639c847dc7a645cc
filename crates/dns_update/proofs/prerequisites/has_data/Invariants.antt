use Rattle.std.proofs.Common.{◌≡◌, drop}
use Rattle.dns_update.specs.Verdict.{has_data}
use Rattle.dns_update.proofs.prerequisites.has_data.Given as goal

abbrev pub invariant-loop-other : goal.invariant-loop-other
invariant-loop-other l = has_data (drop l.other-index l.records) l.one ≡ has_data l.records l.one
