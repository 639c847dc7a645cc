use Rattle.std.proofs.Common.{◌≡◌, ◌∙◌, sym, ap, subst}
use Rattle.std.specs.Prelude.{not}
use Rattle.dns_zone_map.specs.Zone.{IsSoFar, is_equal}
use Rattle.dns_zone_map.specs.Order.{list_of}
use Rattle.dns_zone_map.specs.Tree.{in_entries}
use Rattle.dns_zone_map.specs.Mapped.{Mapped, contents}
use Rattle.dns_zone_map.specs.Former.{before_of}
use Rattle.dns_zone_map.proofs.Reading.{paired_all, rising_entries}
use Rattle.dns_zone_map.proofs.Swept.{swept_list}
use Rattle.dns_zone_map.proofs.Deleted.{so_far_left}
use Rattle.dns_zone_map.proofs.RecordTaken.{none_goes, outside_one, absent_one, absent_stays, record_left, record_few, record_tree, record_taken}
use Rattle.dns_zone_map.proofs.CanBeUndone.{MayChange, may_change, mapped_of, on_err, seen_failed, map_failed, map_swept, before_swept}
use Rattle.dns_zone_map.proofs.zone_map.ZoneMap.take_record.Goals as goal
use Rattle.dns_zone_map.proofs.zone_map.ZoneMap.take_record.Goals.{In_err-keep_former, In_ok-keep_former}

between : (c : In_ok-keep_former) → MayChange c.self.inside.origin c.behind-key.result.now c.keep_former.new.names c.self.inside.next c.self.inside.count c.keep_former.new.undoing c.args.self.now
between c = may_change c.self.inside.origin c.behind-key.result.now c.self.inside.names c.keep_former.new.names c.self.inside.next c.self.inside.count c.self.inside.undoing c.keep_former.new.undoing c.self.invariant c.in_ok-keep_former.ensures.ok c.args.self.now c.self.view_is

failed : (c : In_err-keep_former) → mapped_of c.self.inside.origin (list_of (in_entries c.keep_former.new.names)) (before_of c.keep_former.new.undoing c.keep_former.new.names) ≡ c.args.self.now
failed c = seen_failed c.self.inside.origin c.self.inside.names c.keep_former.new.names c.in_err-keep_former.ensures.err_names c.self.inside.undoing c.keep_former.new.undoing c.in_err-keep_former.ensures.err_undoing c.args.self.now c.self.view_is

pub returns-then-not-at_or_below-clause-records : goal.returns-then-not-at_or_below-clause-records
returns-then-not-at_or_below-clause-records c =
    none_goes c.args.one.now c.args.self.now.records (outside_one c.self.inside.origin c.args.one.now c.self.inside.names c.self.inside.next c.self.inside.count (contents c.args.self.now) (ap contents c.self.view_is) c.self.invariant.tree (sym c.at_or_below.ensures.test ∙ c.if-not-at_or_below.true))

pub returns-then-not-at_or_below-clause-taken : goal.returns-then-not-at_or_below-clause-taken
returns-then-not-at_or_below-clause-taken c =
    outside_one c.self.inside.origin c.args.one.now c.self.inside.names c.self.inside.next c.self.inside.count (contents c.args.self.now) (ap contents c.self.view_is) c.self.invariant.tree (sym c.at_or_below.ensures.test ∙ c.if-not-at_or_below.true)

pub invariant_of-self : goal.invariant_of-self
invariant_of-self c =
    map_failed c.self.inside.origin c.self.inside.names c.keep_former.new.names c.in_err-keep_former.ensures.err_names c.self.inside.undoing c.keep_former.new.undoing c.in_err-keep_former.ensures.err_undoing c.self.inside.next c.self.inside.count c.self.invariant

pub returns-in_err-keep_former-clause-before : goal.returns-in_err-keep_former-clause-before
returns-in_err-keep_former-clause-before c = ap (λ z. z.before) (failed (goal.at.returns-in_err-keep_former-clause-before c).In_err-keep_former)

pub returns-in_err-keep_former-clause-so_far : goal.returns-in_err-keep_former-clause-so_far
returns-in_err-keep_former-clause-so_far c =
    subst (λ (m : Mapped). IsSoFar m.origin m.records) (sym (failed (goal.at.returns-in_err-keep_former-clause-so_far c).In_err-keep_former)) c.requires

pub returns-in_err-keep_former-clause-err : goal.returns-in_err-keep_former-clause-err
returns-in_err-keep_former-clause-err c = on_err _ (failed (goal.at.returns-in_err-keep_former-clause-err c).In_err-keep_former)

pub one_from-requires-clause-rise : goal.one_from-requires-clause-rise
one_from-requires-clause-rise c =
    let m = between (goal.at.one_from-requires-clause-rise c).In_ok-keep_former in
    rising_entries c.self.inside.origin c.keep_former.new.names m.tree.each

pub one_from-requires-clause-paired : goal.one_from-requires-clause-paired
one_from-requires-clause-paired c =
    let m = between (goal.at.one_from-requires-clause-paired c).In_ok-keep_former in
    paired_all c.self.inside.origin c.keep_former.new.names m.tree.each

pub overflow_sub-self : goal.overflow_sub-self
overflow_sub-self c =
    let m = between (goal.at.overflow_sub-self c).In_ok-keep_former in
    record_few c.self.inside.origin c.args.one.now c.keep_former.new.names c.self.inside.next c.self.inside.count (contents c.args.self.now) m.seen m.tree c.one_from.new.self c.behind-key.result.now (sym c.at_or_below.ensures.test ∙ c.if-not-at_or_below.false) c.one_from.ensures.apart (c.behind-key.ensures ∙ c.write_key-start.ensures.key) c.requires c.in-Some.taken c.in-Some.ensures.is

pub invariant_of-self-in-None : goal.invariant_of-self-in-None
invariant_of-self-in-None c =
    let m = between (goal.at.invariant_of-self-in-None c).In_ok-keep_former in
    m.same c.one_from.new.self c.in-None.ensures.is.0

pub invariant_of-self-in-Some : goal.invariant_of-self-in-Some
invariant_of-self-in-Some c =
    let m = between (goal.at.invariant_of-self-in-Some c).In_ok-keep_former in
    map_swept c.self.inside.origin c.one_from.new.self c.sweep_unless.new.names c.self.inside.next _ c.keep_former.new.undoing c.sweep_unless.ensures.same c.sweep_unless.ensures.stays (m.changed c.one_from.new.self c.self.inside.next _ (λ there. c.in-Some.ensures.others) (record_tree c.self.inside.origin c.args.one.now c.keep_former.new.names c.self.inside.next c.self.inside.count (contents c.args.self.now) m.seen m.tree c.one_from.new.self c.behind-key.result.now (sym c.at_or_below.ensures.test ∙ c.if-not-at_or_below.false) c.one_from.ensures.apart (c.behind-key.ensures ∙ c.write_key-start.ensures.key) c.requires c.in-Some.taken c.in-Some.ensures.is))

pub returns-in-None-clause-records : goal.returns-in-None-clause-records
returns-in-None-clause-records c =
    let m = between (goal.at.returns-in-None-clause-records c).In_ok-keep_former in
    absent_stays c.self.inside.origin c.args.one.now c.keep_former.new.names c.self.inside.next c.self.inside.count (contents c.args.self.now) m.seen m.tree c.one_from.new.self c.behind-key.result.now (sym c.at_or_below.ensures.test ∙ c.if-not-at_or_below.false) c.one_from.ensures.apart (c.behind-key.ensures ∙ c.write_key-start.ensures.key) c.requires c.in-None.ensures.is

pub returns-in-None-clause-taken : goal.returns-in-None-clause-taken
returns-in-None-clause-taken c =
    let m = between (goal.at.returns-in-None-clause-taken c).In_ok-keep_former in
    absent_one c.self.inside.origin c.args.one.now c.keep_former.new.names c.self.inside.next c.self.inside.count (contents c.args.self.now) m.seen m.tree c.one_from.new.self c.behind-key.result.now (sym c.at_or_below.ensures.test ∙ c.if-not-at_or_below.false) c.one_from.ensures.apart (c.behind-key.ensures ∙ c.write_key-start.ensures.key) c.requires c.in-None.ensures.is

pub returns-in-None-clause-so_far : goal.returns-in-None-clause-so_far
returns-in-None-clause-so_far c =
    let m = between (goal.at.returns-in-None-clause-so_far c).In_ok-keep_former in
    so_far_left (λ r. not (is_equal c.args.one.now r)) (contents c.args.self.now) (record { origin = c.self.inside.origin; records = list_of (in_entries c.one_from.new.self) }) (ap (λ z. z.origin) c.self.view_is) (absent_stays c.self.inside.origin c.args.one.now c.keep_former.new.names c.self.inside.next c.self.inside.count (contents c.args.self.now) m.seen m.tree c.one_from.new.self c.behind-key.result.now (sym c.at_or_below.ensures.test ∙ c.if-not-at_or_below.false) c.one_from.ensures.apart (c.behind-key.ensures ∙ c.write_key-start.ensures.key) c.requires c.in-None.ensures.is) c.requires

pub returns-in-None-clause-before : goal.returns-in-None-clause-before
returns-in-None-clause-before c =
    let m = between (goal.at.returns-in-None-clause-before c).In_ok-keep_former in
    m.before c.one_from.new.self (λ there. c.in-None.ensures.others)

pub returns-in-Some-clause-records : goal.returns-in-Some-clause-records
returns-in-Some-clause-records c =
    let m = between (goal.at.returns-in-Some-clause-records c).In_ok-keep_former in
    swept_list c.one_from.new.self c.sweep_unless.new.names c.sweep_unless.ensures.same ∙ record_left c.self.inside.origin c.args.one.now c.keep_former.new.names c.self.inside.next c.self.inside.count (contents c.args.self.now) m.seen m.tree c.one_from.new.self c.behind-key.result.now (sym c.at_or_below.ensures.test ∙ c.if-not-at_or_below.false) c.one_from.ensures.apart (c.behind-key.ensures ∙ c.write_key-start.ensures.key) c.requires c.in-Some.taken c.in-Some.ensures.is

pub returns-in-Some-clause-taken : goal.returns-in-Some-clause-taken
returns-in-Some-clause-taken c =
    let m = between (goal.at.returns-in-Some-clause-taken c).In_ok-keep_former in
    record_taken c.self.inside.origin c.args.one.now c.keep_former.new.names c.self.inside.next c.self.inside.count (contents c.args.self.now) m.seen m.tree c.one_from.new.self c.behind-key.result.now (sym c.at_or_below.ensures.test ∙ c.if-not-at_or_below.false) c.one_from.ensures.apart (c.behind-key.ensures ∙ c.write_key-start.ensures.key) c.requires c.in-Some.taken c.in-Some.ensures.is

pub returns-in-Some-clause-so_far : goal.returns-in-Some-clause-so_far
returns-in-Some-clause-so_far c =
    let m = between (goal.at.returns-in-Some-clause-so_far c).In_ok-keep_former in
    so_far_left (λ r. not (is_equal c.args.one.now r)) (contents c.args.self.now) (record { origin = c.self.inside.origin; records = list_of (in_entries c.sweep_unless.new.names) }) (ap (λ z. z.origin) c.self.view_is) (swept_list c.one_from.new.self c.sweep_unless.new.names c.sweep_unless.ensures.same ∙ record_left c.self.inside.origin c.args.one.now c.keep_former.new.names c.self.inside.next c.self.inside.count (contents c.args.self.now) m.seen m.tree c.one_from.new.self c.behind-key.result.now (sym c.at_or_below.ensures.test ∙ c.if-not-at_or_below.false) c.one_from.ensures.apart (c.behind-key.ensures ∙ c.write_key-start.ensures.key) c.requires c.in-Some.taken c.in-Some.ensures.is) c.requires

pub returns-in-Some-clause-before : goal.returns-in-Some-clause-before
returns-in-Some-clause-before c =
    let m = between (goal.at.returns-in-Some-clause-before c).In_ok-keep_former in
    before_swept c.one_from.new.self c.sweep_unless.new.names c.keep_former.new.undoing c.sweep_unless.ensures.stays ∙ m.before c.one_from.new.self (λ there. c.in-Some.ensures.others)
