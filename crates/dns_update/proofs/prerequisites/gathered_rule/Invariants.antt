use Rattle.std.proofs.Common.{◌≡◌, drop, take}
use Rattle.std.specs.List.{AllByRecursion}
use Rattle.dns_update.specs.Verdict.{in_turn, set_rule}
use Rattle.dns_update.specs.declared.verdict.Verdict.TheVariants.{Passes}
use Rattle.dns_update.proofs.prerequisites.gathered_rule.Given as goal

abbrev pub invariant-loop-place : goal.invariant-loop-place
invariant-loop-place l = record {
  left : in_turn (set_rule l.map.records l.gathered) (drop l.place l.gathered) ≡ in_turn (set_rule l.map.records l.gathered) l.gathered;
  done : AllByRecursion (λ g. set_rule l.map.records l.gathered g ≡ Passes) (take l.place l.gathered);
}
