use Rattle.std.proofs.Common.{◌∙◌, ap, sym, arith}
use Rattle.std.specs.Prelude.{not, ◌&&◌}
use Rattle.dns_name.specs.Name.{is_same_name}
use Rattle.dns_zone_map.specs.Zone.{is_in_set}
use Rattle.dns_zone_map.specs.Changes.{is_kept_type}
use Rattle.dns_zone_map.specs.Mapped.{contents}
use Rattle.dns_zone_map.proofs.Deleted.{so_far_left, no_more, set_stays, set_deleted}
use Rattle.dns_zone_map.proofs.zone_map.ZoneMap.delete_set.Goals as goal

pub returns-then-is_kept_set-clause-records : goal.returns-then-is_kept_set-clause-records
returns-then-is_kept_set-clause-records c = set_stays c.args.self.now.origin c.args.name.now c.args.rtype c.args.self.now.records (ap (λ n. is_same_name c.args.name.now n && is_kept_type c.args.rtype) (sym c.origin.ensures) ∙ sym c.is_kept_set.ensures ∙ c.if-is_kept_set.true)

pub overflow_sub-result : goal.overflow_sub-result
overflow_sub-result c = omega (arith, no_more (λ r. not (is_in_set c.args.name.now c.args.rtype r)) c.args.self.now.records c.take_set.new.self.records c.in_ok-take_set.ensures.records, c.len.ensures, c.len-before.ensures)

pub returns-clause-records : goal.returns-clause-records
returns-clause-records c = set_deleted c.args.self.now.origin c.args.name.now c.args.rtype c.args.self.now.records c.take_set.new.self.records (ap (λ n. is_same_name c.args.name.now n && is_kept_type c.args.rtype) (sym c.origin.ensures) ∙ sym c.is_kept_set.ensures ∙ c.if-is_kept_set.false) c.in_ok-take_set.ensures.records

pub returns-clause-gone : goal.returns-clause-gone
returns-clause-gone c = omega (arith, no_more (λ r. not (is_in_set c.args.name.now c.args.rtype r)) c.args.self.now.records c.take_set.new.self.records c.in_ok-take_set.ensures.records, c.len.ensures, c.len-before.ensures)

pub returns-clause-so_far : goal.returns-clause-so_far
returns-clause-so_far c = so_far_left (λ r. not (is_in_set c.args.name.now c.args.rtype r)) (contents c.args.self.now) (contents c.take_set.new.self) c.take_set.ensures.origin c.in_ok-take_set.ensures.records
