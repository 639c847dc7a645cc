use Rattle.std.proofs.Common.{◌≡◌, [], ap, subst, sym}
use Rattle.dns_zone_map.specs.Zone.{IsSoFar}
use Rattle.dns_zone_map.specs.Mapped.{Mapped, contents}
use Rattle.dns_zone_map.specs.Order.{list_of}
use Rattle.dns_zone_map.specs.Tree.{in_entries}
use Rattle.dns_zone_map.specs.Former.{before_of}
use Rattle.dns_zone_map.proofs.Reading.{rising_entries}
use Rattle.dns_zone_map.proofs.SerialPut.{serial_list, serial_tree, serial_so_far}
use Rattle.dns_zone_map.proofs.CanBeUndone.{MayChange, may_change, mapped_of, on_err, seen_failed, map_failed}
use Rattle.dns_zone_map.proofs.zone_map.ZoneMap.set_serial.Goals as goal
use Rattle.dns_zone_map.proofs.zone_map.ZoneMap.set_serial.Goals.{In_err-keep_former, In_ok-keep_former}

between : (c : In_ok-keep_former) → MayChange c.self.inside.origin [] c.keep_former.new.names c.self.inside.next c.self.inside.count c.keep_former.new.undoing c.args.self.now
between c = may_change c.self.inside.origin [] c.self.inside.names c.keep_former.new.names c.self.inside.next c.self.inside.count c.self.inside.undoing c.keep_former.new.undoing c.self.invariant c.in_ok-keep_former.ensures.ok c.args.self.now c.self.view_is

failed : (c : In_err-keep_former) → mapped_of c.self.inside.origin (list_of (in_entries c.keep_former.new.names)) (before_of c.keep_former.new.undoing c.keep_former.new.names) ≡ c.args.self.now
failed c = seen_failed c.self.inside.origin c.self.inside.names c.keep_former.new.names c.in_err-keep_former.ensures.err_names c.self.inside.undoing c.keep_former.new.undoing c.in_err-keep_former.ensures.err_undoing c.args.self.now c.self.view_is

pub invariant_of-self : goal.invariant_of-self
invariant_of-self c =
    map_failed c.self.inside.origin c.self.inside.names c.keep_former.new.names c.in_err-keep_former.ensures.err_names c.self.inside.undoing c.keep_former.new.undoing c.in_err-keep_former.ensures.err_undoing c.self.inside.next c.self.inside.count c.self.invariant

pub returns-in_err-keep_former-clause-before : goal.returns-in_err-keep_former-clause-before
returns-in_err-keep_former-clause-before c = ap (λ z. z.before) (failed (goal.at.returns-in_err-keep_former-clause-before c).In_err-keep_former)

pub returns-in_err-keep_former-clause-so_far : goal.returns-in_err-keep_former-clause-so_far
returns-in_err-keep_former-clause-so_far c =
    subst (λ (m : Mapped). IsSoFar m.origin m.records) (sym (failed (goal.at.returns-in_err-keep_former-clause-so_far c).In_err-keep_former)) c.requires

pub returns-in_err-keep_former-clause-err : goal.returns-in_err-keep_former-clause-err
returns-in_err-keep_former-clause-err c = on_err _ (failed (goal.at.returns-in_err-keep_former-clause-err c).In_err-keep_former)

pub set_serial_at-requires : goal.set_serial_at-requires
set_serial_at-requires c =
    let m = between (goal.at.set_serial_at-requires c).In_ok-keep_former in
    rising_entries c.self.inside.origin c.keep_former.new.names m.tree.each

pub invariant_of-self-2 : goal.invariant_of-self-2
invariant_of-self-2 c =
    let m = between (goal.at.invariant_of-self-2 c).In_ok-keep_former in
    m.changed c.set_serial_at.new.self c.self.inside.next c.self.inside.count (λ there. c.set_serial_at.ensures.others) (serial_tree c.self.inside.origin c.args.serial c.keep_former.new.names c.set_serial_at.new.self c.self.inside.next c.self.inside.count (contents c.args.self.now) m.seen m.tree c.requires c.set_serial_at.ensures.apart c.set_serial_at.ensures.is)

pub returns-clause-records : goal.returns-clause-records
returns-clause-records c =
    let m = between (goal.at.returns-clause-records c).In_ok-keep_former in
    serial_list c.self.inside.origin c.args.serial c.keep_former.new.names c.set_serial_at.new.self c.self.inside.next c.self.inside.count (contents c.args.self.now) m.seen m.tree c.requires c.set_serial_at.ensures.apart c.set_serial_at.ensures.is

pub returns-clause-so_far : goal.returns-clause-so_far
returns-clause-so_far c =
    let m = between (goal.at.returns-clause-so_far c).In_ok-keep_former in
    serial_so_far c.self.inside.origin c.args.serial c.keep_former.new.names c.set_serial_at.new.self c.self.inside.next c.self.inside.count (contents c.args.self.now) m.seen m.tree c.requires c.set_serial_at.ensures.apart c.set_serial_at.ensures.is

pub returns-clause-before : goal.returns-clause-before
returns-clause-before c =
    let m = between (goal.at.returns-clause-before c).In_ok-keep_former in
    m.before c.set_serial_at.new.self (λ there. c.set_serial_at.ensures.others)
