use Rattle.std.proofs.Common.{◌≡◌, drop}
use Rattle.std.specs.Prelude.{◌&&◌, not}
use Rattle.std.specs.List.{list_any}
use Rattle.dns_zone_map.specs.Changes.{is_kept_type}
use Rattle.dns_update.proofs.changing.has_free_set.Given as goal

abbrev pub invariant-loop-set : goal.invariant-loop-set
invariant-loop-set l =
    list_any (λ set. not (l.keeps && is_kept_type set.rtype)) (drop l.set-index l.sets) ≡ list_any (λ set. not (l.keeps && is_kept_type set.rtype)) l.sets
