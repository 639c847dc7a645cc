use Rattle.std.proofs.Common.{◌-◌, length}
use Rattle.dns_query.proofs.Walked.{Walking}
use Rattle.dns_query.proofs.query_name.name_end.Given as goal

abbrev pub invariant-loop-at : goal.invariant-loop-at
invariant-loop-at l = Walking l.m l.place l.at

abbrev pub decreases-loop-at : goal.decreases-loop-at
decreases-loop-at l = length l.m - l.at
