use Rattle.std.proofs.Common.{vec_len, ◌≡◌, ◌∙◌, sym, ap, subst, refl, arith, true}
use Rattle.std.specs.Prelude.{length}
use Rattle.dns_wire.specs.declared.record.Record.{Record}
use Rattle.dns_name.specs.Name.{is_at_or_below}
use Rattle.dns_zone_map.specs.Mapped.{contents}
use Rattle.dns_update.specs.Change.{fold_record, makes_change}
use Rattle.dns_update.specs.Replay.{MayCome}
use Rattle.dns_update.specs.UnderWay.{IsUnderWay}
use Rattle.dns_update.proofs.Zones.{batch_entry}
use Rattle.dns_update.proofs.Doing.{within_folded, journalled_change}
use Rattle.dns_update.proofs.HalfDone.{passed_by, taken_in, has_room, grew}
use Rattle.dns_update.proofs.batch.Work.take.Goals as goal

pub change-requires-clause-within : goal.change-requires-clause-within
change-requires-clause-within c =
    ap (λ (r : Record). is_at_or_below r.name c.args.map.now.origin) c.in_ok-small.ensures ∙ within_folded c.args.map.now.origin c.args.one.now c.requires.passes

pub change-requires-clause-fit : goal.change-requires-clause-fit
change-requires-clause-fit c = λ changes.
    let z = contents c.args.map.now in
    subst (λ (r : Record). MayCome z.origin r) (sym c.in_ok-small.ensures)
    (batch_entry z.origin (fold_record c.args.one.now) (journalled_change z.origin z.records c.args.one.now c.requires.back c.requires.passes
    (subst (λ (r : Record). makes_change z.origin z.records r ≡ true) c.in_ok-small.ensures changes)))

pub returns-then-not-branch-clause-next : goal.returns-then-not-branch-clause-next
returns-then-not-branch-clause-next c = λ before updates rest u.
    passed_by before (contents c.args.map.now) (contents c.change.new.map) updates rest c.args.self.now.records.items c.args.self.now.modified c.args.one.now c.in_ok-small.small c.in_ok-change.field-0
    c.in_ok-small.ensures u c.in_ok-change.ensures.changed c.change.ensures.origin c.in_ok-change.ensures.records c.change.ensures.zone c.if-not-branch.true

pub count-self-requires : goal.count-self-requires
count-self-requires c =
    let size : vec_len c.push.new.self ≡ length c.push.new.self.items = omega (arith, c.push.new.self.ok.0) in
    has_room _ c.len-many.result c.args.self.now.records.items c.in_ok-small.small c.requires.counted (c.len-many.ensures ∙ size ∙ ap length c.in_ok-push.ensures.items) c.len-many.type_inv

pub returns-clause-next : goal.returns-clause-next
returns-clause-next c = λ before updates rest u.
    subst (λ l. IsUnderWay before updates rest (contents c.change.new.map) l c.count-self.result) (sym c.in_ok-push.ensures.items)
    (taken_in before (contents c.args.map.now) (contents c.change.new.map) updates rest c.args.self.now.records.items c.args.self.now.modified c.args.one.now c.in_ok-small.small c.in_ok-change.field-0
    c.in_ok-small.ensures u c.in_ok-change.ensures.changed c.change.ensures.origin c.in_ok-change.ensures.records c.change.ensures.zone c.if-not-branch.false
    c.count-self.result
    (c.count-self.ensures c.in_ok-small.small refl ∙ grew c.args.self.now.modified c.in_ok-small.small c.len-size.result c.len.result c.args.map.now.records c.change.new.map.records c.len-size.ensures c.len.ensures))
