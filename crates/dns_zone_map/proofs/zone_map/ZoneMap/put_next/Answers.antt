use Rattle.std.proofs.Common.{◌≡◌, ◌∙◌, sym, ap, subst}
use Rattle.dns_zone_map.specs.Zone.{IsSoFar}
use Rattle.dns_zone_map.specs.Mapped.{Mapped, contents}
use Rattle.dns_zone_map.specs.Order.{list_of}
use Rattle.dns_zone_map.specs.Tree.{in_entries}
use Rattle.dns_zone_map.specs.Former.{before_of}
use Rattle.dns_zone_map.proofs.Put.{rising_all, records_after, replaced_is, so_far_after, tree_same, tree_more}
use Rattle.dns_zone_map.proofs.CanBeUndone.{MayChange, may_change, mapped_of, on_err, seen_failed, map_failed}
use Rattle.dns_zone_map.proofs.zone_map.ZoneMap.put_next.Goals as goal
use Rattle.dns_zone_map.proofs.zone_map.ZoneMap.put_next.Goals.{In_err-keep_former, In_ok-keep_former}

between : (c : In_ok-keep_former) → MayChange c.self.inside.origin c.behind-key.result.now c.keep_former.new.names c.self.inside.next c.self.inside.count c.keep_former.new.undoing c.args.self.now
between c = may_change c.self.inside.origin c.behind-key.result.now c.self.inside.names c.keep_former.new.names c.self.inside.next c.self.inside.count c.self.inside.undoing c.keep_former.new.undoing c.self.invariant c.in_ok-keep_former.ensures.ok c.args.self.now c.self.view_is

failed : (c : In_err-keep_former) → mapped_of c.self.inside.origin (list_of (in_entries c.keep_former.new.names)) (before_of c.keep_former.new.undoing c.keep_former.new.names) ≡ c.args.self.now
failed c = seen_failed c.self.inside.origin c.self.inside.names c.keep_former.new.names c.in_err-keep_former.ensures.err_names c.self.inside.undoing c.keep_former.new.undoing c.in_err-keep_former.ensures.err_undoing c.args.self.now c.self.view_is

pub invariant_of-self : goal.invariant_of-self
invariant_of-self c =
    map_failed c.self.inside.origin c.self.inside.names c.keep_former.new.names c.in_err-keep_former.ensures.err_names c.self.inside.undoing c.keep_former.new.undoing c.in_err-keep_former.ensures.err_undoing c.self.inside.next c.self.inside.count c.self.invariant

pub returns-in_err-keep_former-clause-before : goal.returns-in_err-keep_former-clause-before
returns-in_err-keep_former-clause-before c = ap (λ z. z.before) (failed (goal.at.returns-in_err-keep_former-clause-before c).In_err-keep_former)

pub returns-in_err-keep_former-clause-so_far : goal.returns-in_err-keep_former-clause-so_far
returns-in_err-keep_former-clause-so_far c =
    subst (λ (m : Mapped). IsSoFar m.origin m.records) (sym (failed (goal.at.returns-in_err-keep_former-clause-so_far c).In_err-keep_former)) c.requires.so_far

pub returns-in_err-keep_former-clause-err : goal.returns-in_err-keep_former-clause-err
returns-in_err-keep_former-clause-err c = on_err _ (failed (goal.at.returns-in_err-keep_former-clause-err c).In_err-keep_former)

pub put_under-requires : goal.put_under-requires
put_under-requires c =
    let m = between (goal.at.put_under-requires c).In_ok-keep_former in
    rising_all c.self.inside.origin c.keep_former.new.names c.self.inside.next c.self.inside.count (contents c.args.self.now) c.args.one m.seen m.tree c.requires.entry c.requires.so_far

pub invariant_of-self-in_err-old : goal.invariant_of-self-in_err-old
invariant_of-self-in_err-old c =
    let m = between (goal.at.invariant_of-self-in_err-old c).In_ok-keep_former in
    m.same c.put_under.new.self c.in_err-old.ensures.err

pub returns-in_err-old-clause-before : goal.returns-in_err-old-clause-before
returns-in_err-old-clause-before c =
    let m = between (goal.at.returns-in_err-old-clause-before c).In_ok-keep_former in
    ap (λ z. z.before) (m.alike c.put_under.new.self c.in_err-old.ensures.err)

pub returns-in_err-old-clause-so_far : goal.returns-in_err-old-clause-so_far
returns-in_err-old-clause-so_far c =
    let m = between (goal.at.returns-in_err-old-clause-so_far c).In_ok-keep_former in
    subst (λ (m : Mapped). IsSoFar m.origin m.records) (sym (m.alike c.put_under.new.self c.in_err-old.ensures.err)) c.requires.so_far

pub returns-in_err-old-clause-err : goal.returns-in_err-old-clause-err
returns-in_err-old-clause-err c =
    let m = between (goal.at.returns-in_err-old-clause-err c).In_ok-keep_former in
    on_err _ (m.alike c.put_under.new.self c.in_err-old.ensures.err)

pub invariant_of-self-in-Some : goal.invariant_of-self-in-Some
invariant_of-self-in-Some c =
    let m = between (goal.at.invariant_of-self-in-Some c).In_ok-keep_former in
    m.changed c.put_under.new.self c.self.inside.next c.self.inside.count c.in_ok-old.ensures.others (tree_same c.self.inside.origin c.keep_former.new.names c.self.inside.next c.self.inside.count (contents c.args.self.now) c.args.one m.seen m.tree c.requires.entry c.requires.so_far c.put_under.new.self c.behind-key.result.now c.in_ok-old.field-0 c.put_under.ensures.apart (c.behind-key.ensures ∙ c.write_key-start.ensures.key) c.in_ok-old.ensures.put c.in-Some.old c.in-Some.is)

pub invariant_of-self-in-None : goal.invariant_of-self-in-None
invariant_of-self-in-None c =
    let m = between (goal.at.invariant_of-self-in-None c).In_ok-keep_former in
    m.changed c.put_under.new.self _ _ c.in_ok-old.ensures.others (tree_more c.self.inside.origin c.keep_former.new.names c.self.inside.next c.self.inside.count (contents c.args.self.now) c.args.one m.seen m.tree c.requires.entry c.requires.so_far c.put_under.new.self c.behind-key.result.now c.in_ok-old.field-0 c.put_under.ensures.apart (c.behind-key.ensures ∙ c.write_key-start.ensures.key) c.in_ok-old.ensures.put c.in-None.is)

pub returns-in-Some-clause-records : goal.returns-in-Some-clause-records
returns-in-Some-clause-records c =
    let m = between (goal.at.returns-in-Some-clause-records c).In_ok-keep_former in
    records_after c.self.inside.origin c.keep_former.new.names c.self.inside.next c.self.inside.count (contents c.args.self.now) c.args.one m.seen m.tree c.requires.entry c.requires.so_far c.put_under.new.self c.behind-key.result.now c.in_ok-old.field-0 c.put_under.ensures.apart (c.behind-key.ensures ∙ c.write_key-start.ensures.key) c.in_ok-old.ensures.put

pub returns-in-Some-clause-replaced : goal.returns-in-Some-clause-replaced
returns-in-Some-clause-replaced c =
    let m = between (goal.at.returns-in-Some-clause-replaced c).In_ok-keep_former in
    sym c.in-Some.is ∙ replaced_is c.self.inside.origin c.keep_former.new.names c.self.inside.next c.self.inside.count (contents c.args.self.now) c.args.one m.seen m.tree c.requires.entry c.requires.so_far c.put_under.new.self c.behind-key.result.now c.in_ok-old.field-0 c.put_under.ensures.apart (c.behind-key.ensures ∙ c.write_key-start.ensures.key) c.in_ok-old.ensures.put

pub returns-in-Some-clause-so_far : goal.returns-in-Some-clause-so_far
returns-in-Some-clause-so_far c =
    let m = between (goal.at.returns-in-Some-clause-so_far c).In_ok-keep_former in
    so_far_after c.self.inside.origin c.keep_former.new.names c.self.inside.next c.self.inside.count (contents c.args.self.now) c.args.one m.seen m.tree c.requires.entry c.requires.so_far c.put_under.new.self c.behind-key.result.now c.in_ok-old.field-0 c.put_under.ensures.apart (c.behind-key.ensures ∙ c.write_key-start.ensures.key) c.in_ok-old.ensures.put

pub returns-in-Some-clause-before : goal.returns-in-Some-clause-before
returns-in-Some-clause-before c =
    let m = between (goal.at.returns-in-Some-clause-before c).In_ok-keep_former in
    m.before c.put_under.new.self c.in_ok-old.ensures.others

pub returns-in-None-clause-records : goal.returns-in-None-clause-records
returns-in-None-clause-records c =
    let m = between (goal.at.returns-in-None-clause-records c).In_ok-keep_former in
    records_after c.self.inside.origin c.keep_former.new.names c.self.inside.next c.self.inside.count (contents c.args.self.now) c.args.one m.seen m.tree c.requires.entry c.requires.so_far c.put_under.new.self c.behind-key.result.now c.in_ok-old.field-0 c.put_under.ensures.apart (c.behind-key.ensures ∙ c.write_key-start.ensures.key) c.in_ok-old.ensures.put

pub returns-in-None-clause-replaced : goal.returns-in-None-clause-replaced
returns-in-None-clause-replaced c =
    let m = between (goal.at.returns-in-None-clause-replaced c).In_ok-keep_former in
    sym c.in-None.is ∙ replaced_is c.self.inside.origin c.keep_former.new.names c.self.inside.next c.self.inside.count (contents c.args.self.now) c.args.one m.seen m.tree c.requires.entry c.requires.so_far c.put_under.new.self c.behind-key.result.now c.in_ok-old.field-0 c.put_under.ensures.apart (c.behind-key.ensures ∙ c.write_key-start.ensures.key) c.in_ok-old.ensures.put

pub returns-in-None-clause-so_far : goal.returns-in-None-clause-so_far
returns-in-None-clause-so_far c =
    let m = between (goal.at.returns-in-None-clause-so_far c).In_ok-keep_former in
    so_far_after c.self.inside.origin c.keep_former.new.names c.self.inside.next c.self.inside.count (contents c.args.self.now) c.args.one m.seen m.tree c.requires.entry c.requires.so_far c.put_under.new.self c.behind-key.result.now c.in_ok-old.field-0 c.put_under.ensures.apart (c.behind-key.ensures ∙ c.write_key-start.ensures.key) c.in_ok-old.ensures.put

pub returns-in-None-clause-before : goal.returns-in-None-clause-before
returns-in-None-clause-before c =
    let m = between (goal.at.returns-in-None-clause-before c).In_ok-keep_former in
    m.before c.put_under.new.self c.in_ok-old.ensures.others
