use Rattle.std.proofs.Common.{◌≡◌, drop}
use Rattle.dns_update.specs.Verdict.{in_turn, prerequisite_rule}
use Rattle.dns_update.proofs.prerequisites.each_alone.Given as goal

abbrev pub invariant-loop-one : goal.invariant-loop-one
invariant-loop-one l = in_turn (prerequisite_rule l.map.origin l.map.records) (drop l.one-index l.prerequisites) ≡ in_turn (prerequisite_rule l.map.origin l.map.records) l.prerequisites
