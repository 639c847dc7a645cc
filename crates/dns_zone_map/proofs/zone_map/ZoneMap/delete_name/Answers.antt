use Rattle.std.proofs.Common.{◌∙◌, ap, sym, arith}
use Rattle.std.specs.Prelude.{not}
use Rattle.dns_name.specs.Name.{is_same_name}
use Rattle.dns_zone_map.specs.Changes.{bears, is_free_at}
use Rattle.dns_zone_map.specs.Mapped.{contents}
use Rattle.std.proofs.lemmas.Result.{on_ok_weaker}
use Rattle.dns_zone_map.proofs.Deleted.{so_far_left, so_far_either, no_more, top_deleted, name_deleted}
use Rattle.dns_zone_map.proofs.zone_map.ZoneMap.delete_name.Goals as goal

pub returns-then-same-clause-records : goal.returns-then-same-clause-records
returns-then-same-clause-records c =
    on_ok_weaker c.take_free_sets.result
    (top_deleted c.args.self.now.origin c.args.name.now c.args.self.now.records c.take_free_sets.new.self.records (ap (λ n. is_same_name c.args.name.now n) (sym c.origin.ensures) ∙ sym c.same.ensures.test ∙ c.if-same.true)) c.take_free_sets.ensures.records

pub returns-then-same-clause-so_far : goal.returns-then-same-clause-so_far
returns-then-same-clause-so_far c = so_far_either (λ r. not (is_free_at c.args.self.now.origin r)) c.args.self.now c.take_free_sets.new.self c.take_free_sets.result c.take_free_sets.ensures.origin c.take_free_sets.ensures.records c.take_free_sets.ensures.err

pub overflow_sub-result : goal.overflow_sub-result
overflow_sub-result c = omega (arith, no_more (λ r. not (bears c.args.name.now r)) c.args.self.now.records c.take_name.new.self.records c.in_ok-take_name.ensures.records, c.len.ensures, c.len-before.ensures)

pub returns-clause-records : goal.returns-clause-records
returns-clause-records c = name_deleted c.args.self.now.origin c.args.name.now c.args.self.now.records c.take_name.new.self.records (ap (λ n. is_same_name c.args.name.now n) (sym c.origin.ensures) ∙ sym c.same.ensures.test ∙ c.if-same.false) c.in_ok-take_name.ensures.records

pub returns-clause-gone : goal.returns-clause-gone
returns-clause-gone c = omega (arith, no_more (λ r. not (bears c.args.name.now r)) c.args.self.now.records c.take_name.new.self.records c.in_ok-take_name.ensures.records, c.len.ensures, c.len-before.ensures)

pub returns-clause-so_far : goal.returns-clause-so_far
returns-clause-so_far c = so_far_left (λ r. not (bears c.args.name.now r)) (contents c.args.self.now) (contents c.take_name.new.self) c.take_name.ensures.origin c.in_ok-take_name.ensures.records
