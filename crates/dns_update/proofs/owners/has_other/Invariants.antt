use Rattle.std.proofs.Common.{◌≡◌, drop}
use Rattle.std.specs.Prelude.{◌==◌, not}
use Rattle.std.specs.List.{list_any}
use Rattle.dns_update.proofs.owners.has_other.Given as goal

abbrev pub invariant-loop-set : goal.invariant-loop-set
invariant-loop-set l = list_any (λ set. not (set.rtype == 5)) (drop l.set-index l.sets) ≡ list_any (λ set. not (set.rtype == 5)) l.sets
