use Rattle.std.proofs.Common.{◌∙◌, ap, subst}
use Rattle.dns_zone_map.specs.Mapped.{contents}
use Rattle.dns_zone_map.specs.Beside.{IsPutAt}
use Rattle.dns_zone_map.proofs.Put.{rising_all}
use Rattle.dns_zone_map.proofs.PutBeside.{new_put, new_tree, new_so_far, replaced_put, replaced_tree, replaced_so_far, clash_put}
use Rattle.dns_zone_map.proofs.CanBeUndone.{MayChange, may_change, on_err}
use Rattle.dns_zone_map.proofs.zone_map.ZoneMap.put_beside_next.Goals as goal
use Rattle.dns_zone_map.proofs.zone_map.ZoneMap.put_beside_next.Goals.{In_ok-keep_former}

between : (c : In_ok-keep_former) → MayChange c.self.inside.origin c.behind-key.result.now c.keep_former.new.names c.self.inside.next c.self.inside.count c.keep_former.new.undoing c.args.self.now
between c = may_change c.self.inside.origin c.behind-key.result.now c.self.inside.names c.keep_former.new.names c.self.inside.next c.self.inside.count c.self.inside.undoing c.keep_former.new.undoing c.self.invariant c.in_ok-keep_former.ensures.ok c.args.self.now c.self.view_is

pub put_beside-requires : goal.put_beside-requires
put_beside-requires c =
    let m = between (goal.at.put_beside-requires c).In_ok-keep_former in
    rising_all c.self.inside.origin c.keep_former.new.names c.self.inside.next c.self.inside.count (contents c.args.self.now) c.args.one m.seen m.tree c.requires.entry c.requires.so_far

pub invariant_of-self-in_err-put_beside : goal.invariant_of-self-in_err-put_beside
invariant_of-self-in_err-put_beside c =
    let m = between (goal.at.invariant_of-self-in_err-put_beside c).In_ok-keep_former in
    m.same c.put_beside.new.self c.in_err-put_beside.ensures.err

pub returns-in_err-put_beside-clause-before : goal.returns-in_err-put_beside-clause-before
returns-in_err-put_beside-clause-before c =
    let m = between (goal.at.returns-in_err-put_beside-clause-before c).In_ok-keep_former in
    ap (λ z. z.before) (m.alike c.put_beside.new.self c.in_err-put_beside.ensures.err)

pub returns-in_err-put_beside-clause-err : goal.returns-in_err-put_beside-clause-err
returns-in_err-put_beside-clause-err c =
    let m = between (goal.at.returns-in_err-put_beside-clause-err c).In_ok-keep_former in
    on_err _ (m.alike c.put_beside.new.self c.in_err-put_beside.ensures.err)

pub invariant_of-self-in-New : goal.invariant_of-self-in-New
invariant_of-self-in-New c =
    let m = between (goal.at.invariant_of-self-in-New c).In_ok-keep_former in
    m.changed c.put_beside.new.self _ _ c.in_ok-put_beside.ensures.others (new_tree c.self.inside.origin c.keep_former.new.names c.self.inside.next c.self.inside.count (contents c.args.self.now) c.args.one m.seen m.tree c.requires.entry c.requires.so_far c.put_beside.new.self c.behind-key.result.now c.put_beside.ensures.apart (c.behind-key.ensures ∙ c.write_key-start.ensures.key) (subst (IsPutAt c.behind-key.result.now c.self.inside.next c.args.one c.keep_former.new.names c.put_beside.new.self) c.in-New.is c.in_ok-put_beside.ensures.put))

pub invariant_of-self-in-Replaced : goal.invariant_of-self-in-Replaced
invariant_of-self-in-Replaced c =
    let m = between (goal.at.invariant_of-self-in-Replaced c).In_ok-keep_former in
    m.changed c.put_beside.new.self c.self.inside.next c.self.inside.count c.in_ok-put_beside.ensures.others (replaced_tree c.self.inside.origin c.keep_former.new.names c.self.inside.next c.self.inside.count (contents c.args.self.now) c.args.one m.seen m.tree c.requires.entry c.requires.so_far c.put_beside.new.self c.behind-key.result.now c.put_beside.ensures.apart (c.behind-key.ensures ∙ c.write_key-start.ensures.key) (subst (IsPutAt c.behind-key.result.now c.self.inside.next c.args.one c.keep_former.new.names c.put_beside.new.self) c.in-Replaced.is c.in_ok-put_beside.ensures.put))

pub invariant_of-self-in-Clash : goal.invariant_of-self-in-Clash
invariant_of-self-in-Clash c =
    let m = between (goal.at.invariant_of-self-in-Clash c).In_ok-keep_former in
    m.same c.put_beside.new.self (subst (IsPutAt c.behind-key.result.now c.self.inside.next c.args.one c.keep_former.new.names c.put_beside.new.self) c.in-Clash.is c.in_ok-put_beside.ensures.put).1

pub returns-in-New-clause-put : goal.returns-in-New-clause-put
returns-in-New-clause-put c =
    let m = between (goal.at.returns-in-New-clause-put c).In_ok-keep_former in
    new_put c.self.inside.origin c.keep_former.new.names c.self.inside.next c.self.inside.count (contents c.args.self.now) c.args.one m.seen m.tree c.requires.entry c.requires.so_far c.put_beside.new.self c.behind-key.result.now c.put_beside.ensures.apart (c.behind-key.ensures ∙ c.write_key-start.ensures.key) (subst (IsPutAt c.behind-key.result.now c.self.inside.next c.args.one c.keep_former.new.names c.put_beside.new.self) c.in-New.is c.in_ok-put_beside.ensures.put)

pub returns-in-New-clause-before : goal.returns-in-New-clause-before
returns-in-New-clause-before c =
    let m = between (goal.at.returns-in-New-clause-before c).In_ok-keep_former in
    m.before c.put_beside.new.self c.in_ok-put_beside.ensures.others

pub returns-in-New-clause-so_far : goal.returns-in-New-clause-so_far
returns-in-New-clause-so_far c =
    let m = between (goal.at.returns-in-New-clause-so_far c).In_ok-keep_former in
    new_so_far c.self.inside.origin c.keep_former.new.names c.self.inside.next c.self.inside.count (contents c.args.self.now) c.args.one m.seen m.tree c.requires.entry c.requires.so_far c.put_beside.new.self c.behind-key.result.now c.put_beside.ensures.apart (c.behind-key.ensures ∙ c.write_key-start.ensures.key) (subst (IsPutAt c.behind-key.result.now c.self.inside.next c.args.one c.keep_former.new.names c.put_beside.new.self) c.in-New.is c.in_ok-put_beside.ensures.put)

pub returns-in-Replaced-clause-put : goal.returns-in-Replaced-clause-put
returns-in-Replaced-clause-put c =
    let m = between (goal.at.returns-in-Replaced-clause-put c).In_ok-keep_former in
    replaced_put c.self.inside.origin c.keep_former.new.names c.self.inside.next c.self.inside.count (contents c.args.self.now) c.args.one m.seen m.tree c.requires.entry c.requires.so_far c.put_beside.new.self c.behind-key.result.now c.put_beside.ensures.apart (c.behind-key.ensures ∙ c.write_key-start.ensures.key) (subst (IsPutAt c.behind-key.result.now c.self.inside.next c.args.one c.keep_former.new.names c.put_beside.new.self) c.in-Replaced.is c.in_ok-put_beside.ensures.put)

pub returns-in-Replaced-clause-before : goal.returns-in-Replaced-clause-before
returns-in-Replaced-clause-before c =
    let m = between (goal.at.returns-in-Replaced-clause-before c).In_ok-keep_former in
    m.before c.put_beside.new.self c.in_ok-put_beside.ensures.others

pub returns-in-Replaced-clause-so_far : goal.returns-in-Replaced-clause-so_far
returns-in-Replaced-clause-so_far c =
    let m = between (goal.at.returns-in-Replaced-clause-so_far c).In_ok-keep_former in
    replaced_so_far c.self.inside.origin c.keep_former.new.names c.self.inside.next c.self.inside.count (contents c.args.self.now) c.args.one m.seen m.tree c.requires.entry c.requires.so_far c.put_beside.new.self c.behind-key.result.now c.put_beside.ensures.apart (c.behind-key.ensures ∙ c.write_key-start.ensures.key) (subst (IsPutAt c.behind-key.result.now c.self.inside.next c.args.one c.keep_former.new.names c.put_beside.new.self) c.in-Replaced.is c.in_ok-put_beside.ensures.put)

pub returns-in-Clash-clause-put : goal.returns-in-Clash-clause-put
returns-in-Clash-clause-put c =
    let m = between (goal.at.returns-in-Clash-clause-put c).In_ok-keep_former in
    clash_put c.self.inside.origin c.keep_former.new.names c.self.inside.next c.self.inside.count (contents c.args.self.now) c.args.one m.seen m.tree c.requires.entry c.requires.so_far c.put_beside.new.self c.behind-key.result.now c.put_beside.ensures.apart (c.behind-key.ensures ∙ c.write_key-start.ensures.key) (subst (IsPutAt c.behind-key.result.now c.self.inside.next c.args.one c.keep_former.new.names c.put_beside.new.self) c.in-Clash.is c.in_ok-put_beside.ensures.put)

pub returns-in-Clash-clause-before : goal.returns-in-Clash-clause-before
returns-in-Clash-clause-before c =
    let m = between (goal.at.returns-in-Clash-clause-before c).In_ok-keep_former in
    m.before c.put_beside.new.self c.in_ok-put_beside.ensures.others
