use Rattle.std.proofs.Common.{◌<◌, ◌∙◌, length, arith, subst, sym}
use Rattle.dns_name.proofs.Wire.{length-labels_bytes}
use Rattle.dns_zone_map.proofs.Written.{Writing, Writing-start, Writing-more, Writing-all, Writing-next, Filled-label, Filled-end, next_label, some_left}
use Rattle.dns_zone_map.proofs.key.write_labels.Goals as goal

pub loop-start-init : goal.loop-start-init
loop-start-init c = subst (λ ls. Writing c.args.origin.now c.args.name.now ls c.args.room.now 0 255) (sym c.labels-labels.ensures.labels) (Writing-start _ _ c.requires.within _ c.first_place-first.ensures.named c.requires.room)

pub put_label-start-requires-clause-label : goal.put_label-start-requires-clause-label
put_label-start-requires-clause-label c =
    let w = c.loop-start.invariant.filled in
    next_label _ _ _ _ w.named (sym c.in-Some.ensures.steps ∙ w.left_is)

pub put_label-start-requires-clause-before : goal.put_label-start-requires-clause-before
put_label-start-requires-clause-before c = Filled-label _ _ _ _ _ _ _ _ c.loop-start.invariant.filled c.in-Some.ensures.steps

pub put_label-start-requires-clause-within : goal.put_label-start-requires-clause-within
put_label-start-requires-clause-within c = let w = c.loop-start.invariant.filled in omega (arith, w.size, w.inside)

pub returns-in-None-clause-start : goal.returns-in-None-clause-start
returns-in-None-clause-start c = c.loop-start.invariant.filled.inside

pub returns-in-None-clause-key : goal.returns-in-None-clause-key
returns-in-None-clause-key c =
    let more = Writing-more _ _ c.requires.within _ _ _ _ _ c.loop-start.invariant c.first_place-first.ensures.is c.loop-start-test.true in
    let here : c.loop-start.depth < length c.args.name.now = omega (arith, more) in
    absurd (some_left _ _ _ c.loop-start.invariant.filled.left_is c.in-None.ensures.steps.0 here)

pub returns-in-None-clause-depth : goal.returns-in-None-clause-depth
returns-in-None-clause-depth c =
    let more = Writing-more _ _ c.requires.within _ _ _ _ _ c.loop-start.invariant c.first_place-first.ensures.is c.loop-start-test.true in
    let here : c.loop-start.depth < length c.args.name.now = omega (arith, more) in
    absurd (some_left _ _ _ c.loop-start.invariant.filled.left_is c.in-None.ensures.steps.0 here)

pub overflow_add-depth : goal.overflow_add-depth
overflow_add-depth c =
    let w = c.loop-start.invariant in
    omega (arith, w.within, length-labels_bytes c.args.name.now, w.filled.named.short)

pub loop-start-preserved : goal.loop-start-preserved
loop-start-preserved c =
    let more = Writing-more _ _ c.requires.within _ _ _ _ _ c.loop-start.invariant c.first_place-first.ensures.is c.loop-start-test.true in
    Writing-next _ _ c.requires.within _ _ _ _ _ _ _ _ c.loop-start.invariant c.in-Some.ensures.steps more c.put_label-start.ensures.start c.put_label-start.ensures.put

pub returns-clause-start : goal.returns-clause-start
returns-clause-start c = c.loop-start.invariant.filled.inside

pub returns-clause-key : goal.returns-clause-key
returns-clause-key c =
    let all = Writing-all _ _ c.requires.within _ _ _ _ _ c.loop-start.invariant c.first_place-first.ensures.is c.loop-start-test.false in
    Filled-end _ _ _ _ _ _ c.loop-start.invariant.filled (omega (arith, all))

pub returns-clause-depth : goal.returns-clause-depth
returns-clause-depth c = Writing-all _ _ c.requires.within _ _ _ _ _ c.loop-start.invariant c.first_place-first.ensures.is c.loop-start-test.false
