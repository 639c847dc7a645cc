use Rattle.std.proofs.Common.{◌≡◌, ◌∙◌, sym, subst, List, ℕ}
use Rattle.dns_name.specs.Name.{fold_of}
use Rattle.dns_zone_map.specs.Zone.{IsSoFar}
use Rattle.dns_update.proofs.ReplayZones.{none_so_far}
use Rattle.dns_zone.proofs.replaying.Replaying.new.Goals as goal

pub invariant_of-result : goal.invariant_of-result
invariant_of-result c =
    let is : c.in_ok-no_records.field-0.origin ≡ fold_of c.args.origin.now = c.in_ok-no_records.ensures.origin ∙ c.in_ok-folded.ensures in
    record {
      folded = subst (λ (o : List (List ℕ)). fold_of o ≡ o) (sym is) (c.folded_names.ensures c.args.origin.now);
      so_far = subst (IsSoFar c.in_ok-no_records.field-0.origin) (sym c.in_ok-no_records.ensures.records) (none_so_far c.in_ok-no_records.field-0.origin);
      settled = c.in_ok-no_records.ensures.before;
    }
