use Rattle.std.proofs.Common.{◌≡◌, ◌+◌, ◌∙◌, ap, arith, length, List, []}
use Rattle.dns_wire.specs.declared.record.Record.{Record}
use Rattle.dns_zone_map.specs.Mapped.{contents}
use Rattle.dns_zone_map.specs.Order.{list_of}
use Rattle.dns_zone_map.specs.Tree.{in_entries}
use Rattle.dns_zone_map.specs.Former.{before_of}
use Rattle.dns_zone_map.proofs.Reading.{paired_all}
use Rattle.dns_zone_map.proofs.Swept.{swept_list}
use Rattle.dns_zone_map.proofs.Freed.{none_freed, freed_left, freed_few, freed_tree, freed_count}
use Rattle.dns_zone_map.proofs.CanBeUndone.{MayChange, may_change, mapped_of, on_err, seen_failed, map_failed, map_swept, before_swept}
use Rattle.dns_zone_map.proofs.zone_map.ZoneMap.take_free_sets.Goals as goal
use Rattle.dns_zone_map.proofs.zone_map.ZoneMap.take_free_sets.Goals.{In_err-keep_former, In_ok-keep_former}

between : (c : In_ok-keep_former) → MayChange c.self.inside.origin [] c.keep_former.new.names c.self.inside.next c.self.inside.count c.keep_former.new.undoing c.args.self.now
between c = may_change c.self.inside.origin [] c.self.inside.names c.keep_former.new.names c.self.inside.next c.self.inside.count c.self.inside.undoing c.keep_former.new.undoing c.self.invariant c.in_ok-keep_former.ensures.ok c.args.self.now c.self.view_is

failed : (c : In_err-keep_former) → mapped_of c.self.inside.origin (list_of (in_entries c.keep_former.new.names)) (before_of c.keep_former.new.undoing c.keep_former.new.names) ≡ c.args.self.now
failed c = seen_failed c.self.inside.origin c.self.inside.names c.keep_former.new.names c.in_err-keep_former.ensures.err_names c.self.inside.undoing c.keep_former.new.undoing c.in_err-keep_former.ensures.err_undoing c.args.self.now c.self.view_is

pub invariant_of-self : goal.invariant_of-self
invariant_of-self c =
    map_failed c.self.inside.origin c.self.inside.names c.keep_former.new.names c.in_err-keep_former.ensures.err_names c.self.inside.undoing c.keep_former.new.undoing c.in_err-keep_former.ensures.err_undoing c.self.inside.next c.self.inside.count c.self.invariant

pub returns-in_err-keep_former-clause-before : goal.returns-in_err-keep_former-clause-before
returns-in_err-keep_former-clause-before c = ap (λ z. z.before) (failed (goal.at.returns-in_err-keep_former-clause-before c).In_err-keep_former)

pub returns-in_err-keep_former-clause-err : goal.returns-in_err-keep_former-clause-err
returns-in_err-keep_former-clause-err c = on_err _ (failed (goal.at.returns-in_err-keep_former-clause-err c).In_err-keep_former)

pub free_from-requires-clause-paired : goal.free_from-requires-clause-paired
free_from-requires-clause-paired c =
    let m = between (goal.at.free_from-requires-clause-paired c).In_ok-keep_former in
    paired_all c.self.inside.origin c.keep_former.new.names m.tree.each

pub free_from-requires-clause-few : goal.free_from-requires-clause-few
free_from-requires-clause-few c =
    let m = between (goal.at.free_from-requires-clause-few c).In_ok-keep_former in
    omega (arith, m.tree.counted, c.self.ranges)

pub overflow_sub-self : goal.overflow_sub-self
overflow_sub-self c =
    let m = between (goal.at.overflow_sub-self c).In_ok-keep_former in
    freed_few c.self.inside.origin c.keep_former.new.names c.free_from.new.self c.self.inside.next c.self.inside.count (contents c.args.self.now) m.seen m.tree c.free_from.ensures.apart c.in-Some.gone c.in-Some.ensures.is

pub invariant_of-self-in-None : goal.invariant_of-self-in-None
invariant_of-self-in-None c =
    let m = between (goal.at.invariant_of-self-in-None c).In_ok-keep_former in
    m.same c.free_from.new.self c.in-None.ensures.is.0

pub invariant_of-self-in-Some : goal.invariant_of-self-in-Some
invariant_of-self-in-Some c =
    let m = between (goal.at.invariant_of-self-in-Some c).In_ok-keep_former in
    map_swept c.self.inside.origin c.free_from.new.self c.sweep_unless.new.names c.self.inside.next _ c.keep_former.new.undoing c.sweep_unless.ensures.same c.sweep_unless.ensures.stays (m.changed c.free_from.new.self c.self.inside.next _ (λ there. c.in-Some.ensures.others) (freed_tree c.self.inside.origin c.keep_former.new.names c.free_from.new.self c.self.inside.next c.self.inside.count (contents c.args.self.now) m.seen m.tree c.free_from.ensures.apart c.in-Some.gone c.in-Some.ensures.is))

pub returns-in-None-clause-records : goal.returns-in-None-clause-records
returns-in-None-clause-records c =
    let m = between (goal.at.returns-in-None-clause-records c).In_ok-keep_former in
    none_freed c.self.inside.origin c.keep_former.new.names c.free_from.new.self c.self.inside.next c.self.inside.count (contents c.args.self.now) m.seen m.tree c.free_from.ensures.apart c.in-None.ensures.is

pub returns-in-None-clause-taken : goal.returns-in-None-clause-taken
returns-in-None-clause-taken c =
    let m = between (goal.at.returns-in-None-clause-taken c).In_ok-keep_former in
    omega (arith, ap (λ m. length m.records) (m.alike c.free_from.new.self c.in-None.ensures.is.0))

pub returns-in-None-clause-before : goal.returns-in-None-clause-before
returns-in-None-clause-before c =
    let m = between (goal.at.returns-in-None-clause-before c).In_ok-keep_former in
    m.before c.free_from.new.self (λ there. c.in-None.ensures.others)

pub returns-in-Some-clause-records : goal.returns-in-Some-clause-records
returns-in-Some-clause-records c =
    let m = between (goal.at.returns-in-Some-clause-records c).In_ok-keep_former in
    swept_list c.free_from.new.self c.sweep_unless.new.names c.sweep_unless.ensures.same ∙ freed_left c.self.inside.origin c.keep_former.new.names c.free_from.new.self c.self.inside.next c.self.inside.count (contents c.args.self.now) m.seen m.tree c.free_from.ensures.apart c.in-Some.gone c.in-Some.ensures.is

pub returns-in-Some-clause-taken : goal.returns-in-Some-clause-taken
returns-in-Some-clause-taken c =
    let m = between (goal.at.returns-in-Some-clause-taken c).In_ok-keep_former in
    ap (λ (rs : List Record). c.in-Some.gone + length rs) (swept_list c.free_from.new.self c.sweep_unless.new.names c.sweep_unless.ensures.same) ∙ freed_count c.self.inside.origin c.keep_former.new.names c.free_from.new.self c.self.inside.next c.self.inside.count (contents c.args.self.now) m.seen m.tree c.free_from.ensures.apart c.in-Some.gone c.in-Some.ensures.is

pub returns-in-Some-clause-before : goal.returns-in-Some-clause-before
returns-in-Some-clause-before c =
    let m = between (goal.at.returns-in-Some-clause-before c).In_ok-keep_former in
    before_swept c.free_from.new.self c.sweep_unless.new.names c.keep_former.new.undoing c.sweep_unless.ensures.stays ∙ m.before c.free_from.new.self (λ there. c.in-Some.ensures.others)
