use Rattle.std.proofs.Common.{◌≡◌, ◌∙◌, ◌≤◌, ap, sym, subst, arith}
use Rattle.dns_zone_map.specs.Mapped.{contents}
use Rattle.dns_zone_map.specs.Order.{list_of}
use Rattle.dns_zone_map.specs.Tree.{in_entries}
use Rattle.dns_zone_map.specs.Former.{before_of}
use Rattle.dns_zone_map.proofs.Swept.{swept_list}
use Rattle.dns_zone_map.proofs.NameTaken.{outside_name, none_left, name_left, name_paired, name_few, name_tree}
use Rattle.dns_zone_map.proofs.CanBeUndone.{MayChange, may_change, mapped_of, on_err, seen_failed, map_failed, map_swept, before_swept}
use Rattle.dns_zone_map.proofs.zone_map.ZoneMap.take_name.Goals as goal
use Rattle.dns_zone_map.proofs.zone_map.ZoneMap.take_name.Goals.{In_err-keep_former, In_ok-keep_former}

between : (c : In_ok-keep_former) → MayChange c.self.inside.origin c.behind-key.result.now c.keep_former.new.names c.self.inside.next c.self.inside.count c.keep_former.new.undoing c.args.self.now
between c = may_change c.self.inside.origin c.behind-key.result.now c.self.inside.names c.keep_former.new.names c.self.inside.next c.self.inside.count c.self.inside.undoing c.keep_former.new.undoing c.self.invariant c.in_ok-keep_former.ensures.ok c.args.self.now c.self.view_is

failed : (c : In_err-keep_former) → mapped_of c.self.inside.origin (list_of (in_entries c.keep_former.new.names)) (before_of c.keep_former.new.undoing c.keep_former.new.names) ≡ c.args.self.now
failed c = seen_failed c.self.inside.origin c.self.inside.names c.keep_former.new.names c.in_err-keep_former.ensures.err_names c.self.inside.undoing c.keep_former.new.undoing c.in_err-keep_former.ensures.err_undoing c.args.self.now c.self.view_is

pub returns-then-not-at_or_below-clause-records : goal.returns-then-not-at_or_below-clause-records
returns-then-not-at_or_below-clause-records c =
    outside_name c.self.inside.origin c.args.name.now c.self.inside.names c.self.inside.next c.self.inside.count (contents c.args.self.now) (ap contents c.self.view_is) c.self.invariant.tree (sym c.at_or_below.ensures.test ∙ c.if-not-at_or_below.true)

pub invariant_of-self : goal.invariant_of-self
invariant_of-self c =
    map_failed c.self.inside.origin c.self.inside.names c.keep_former.new.names c.in_err-keep_former.ensures.err_names c.self.inside.undoing c.keep_former.new.undoing c.in_err-keep_former.ensures.err_undoing c.self.inside.next c.self.inside.count c.self.invariant

pub returns-in_err-keep_former-clause-before : goal.returns-in_err-keep_former-clause-before
returns-in_err-keep_former-clause-before c = ap (λ z. z.before) (failed (goal.at.returns-in_err-keep_former-clause-before c).In_err-keep_former)

pub returns-in_err-keep_former-clause-err : goal.returns-in_err-keep_former-clause-err
returns-in_err-keep_former-clause-err c = on_err _ (failed (goal.at.returns-in_err-keep_former-clause-err c).In_err-keep_former)

pub record_count-requires-clause-paired : goal.record_count-requires-clause-paired
record_count-requires-clause-paired c =
    let m = between (goal.at.record_count-requires-clause-paired c).In_ok-keep_former in
    name_paired c.self.inside.origin c.args.name.now c.keep_former.new.names c.self.inside.next c.self.inside.count (contents c.args.self.now) m.seen m.tree c.clear_from.new.self c.behind-key.result.now (sym c.at_or_below.ensures.test ∙ c.if-not-at_or_below.false) c.clear_from.ensures.apart (c.behind-key.ensures ∙ c.write_key-start.ensures.key) c.in-Some.sets c.in-Some.ensures.is

pub record_count-requires-clause-few : goal.record_count-requires-clause-few
record_count-requires-clause-few c =
    let m = between (goal.at.record_count-requires-clause-few c).In_ok-keep_former in
    omega (arith, name_few c.self.inside.origin c.args.name.now c.keep_former.new.names c.self.inside.next c.self.inside.count (contents c.args.self.now) m.seen m.tree c.clear_from.new.self c.behind-key.result.now (sym c.at_or_below.ensures.test ∙ c.if-not-at_or_below.false) c.clear_from.ensures.apart (c.behind-key.ensures ∙ c.write_key-start.ensures.key) c.in-Some.sets c.in-Some.ensures.is, c.self.ranges)

pub overflow_sub-self : goal.overflow_sub-self
overflow_sub-self c =
    let m = between (goal.at.overflow_sub-self c).In_ok-keep_former in
    subst (λ n. n ≤ c.self.inside.count) (sym c.record_count.ensures) (name_few c.self.inside.origin c.args.name.now c.keep_former.new.names c.self.inside.next c.self.inside.count (contents c.args.self.now) m.seen m.tree c.clear_from.new.self c.behind-key.result.now (sym c.at_or_below.ensures.test ∙ c.if-not-at_or_below.false) c.clear_from.ensures.apart (c.behind-key.ensures ∙ c.write_key-start.ensures.key) c.in-Some.sets c.in-Some.ensures.is)

pub invariant_of-self-in-None : goal.invariant_of-self-in-None
invariant_of-self-in-None c =
    let m = between (goal.at.invariant_of-self-in-None c).In_ok-keep_former in
    m.same c.clear_from.new.self c.in-None.ensures.is.0

pub invariant_of-self-in-Some : goal.invariant_of-self-in-Some
invariant_of-self-in-Some c =
    let m = between (goal.at.invariant_of-self-in-Some c).In_ok-keep_former in
    map_swept c.self.inside.origin c.clear_from.new.self c.sweep_unless.new.names c.self.inside.next _ c.keep_former.new.undoing c.sweep_unless.ensures.same c.sweep_unless.ensures.stays (m.changed c.clear_from.new.self c.self.inside.next _ (λ there. c.in-Some.ensures.others) (name_tree c.self.inside.origin c.args.name.now c.keep_former.new.names c.self.inside.next c.self.inside.count (contents c.args.self.now) m.seen m.tree c.clear_from.new.self c.behind-key.result.now (sym c.at_or_below.ensures.test ∙ c.if-not-at_or_below.false) c.clear_from.ensures.apart (c.behind-key.ensures ∙ c.write_key-start.ensures.key) c.in-Some.sets c.in-Some.ensures.is c.record_count.result c.record_count.ensures))

pub returns-in-None-clause-records : goal.returns-in-None-clause-records
returns-in-None-clause-records c =
    let m = between (goal.at.returns-in-None-clause-records c).In_ok-keep_former in
    none_left c.self.inside.origin c.args.name.now c.keep_former.new.names c.self.inside.next c.self.inside.count (contents c.args.self.now) m.seen m.tree c.clear_from.new.self c.behind-key.result.now (sym c.at_or_below.ensures.test ∙ c.if-not-at_or_below.false) c.clear_from.ensures.apart (c.behind-key.ensures ∙ c.write_key-start.ensures.key) c.in-None.ensures.is

pub returns-in-None-clause-before : goal.returns-in-None-clause-before
returns-in-None-clause-before c =
    let m = between (goal.at.returns-in-None-clause-before c).In_ok-keep_former in
    m.before c.clear_from.new.self (λ there. c.in-None.ensures.others)

pub returns-in-Some-clause-records : goal.returns-in-Some-clause-records
returns-in-Some-clause-records c =
    let m = between (goal.at.returns-in-Some-clause-records c).In_ok-keep_former in
    swept_list c.clear_from.new.self c.sweep_unless.new.names c.sweep_unless.ensures.same ∙ name_left c.self.inside.origin c.args.name.now c.keep_former.new.names c.self.inside.next c.self.inside.count (contents c.args.self.now) m.seen m.tree c.clear_from.new.self c.behind-key.result.now (sym c.at_or_below.ensures.test ∙ c.if-not-at_or_below.false) c.clear_from.ensures.apart (c.behind-key.ensures ∙ c.write_key-start.ensures.key) c.in-Some.sets c.in-Some.ensures.is

pub returns-in-Some-clause-before : goal.returns-in-Some-clause-before
returns-in-Some-clause-before c =
    let m = between (goal.at.returns-in-Some-clause-before c).In_ok-keep_former in
    before_swept c.clear_from.new.self c.sweep_unless.new.names c.keep_former.new.undoing c.sweep_unless.ensures.stays ∙ m.before c.clear_from.new.self (λ there. c.in-Some.ensures.others)
