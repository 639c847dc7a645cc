use Rattle.std.proofs.Common.{◌≡◌, ◌≤◌, ◌∙◌, ◌+◌, length, take, refl, arith}
use Rattle.std.proofs.lemmas.Result.{err_from_is_err_and}
use Rattle.dns_follow.proofs.Going.{Going-begun, Going-more, arrives, ends_all, ends_cut_off, ends_hearing, ends_reading, ends_wanting}
use Rattle.dns_follow.proofs.following.follow.Goals as goal

pub loop-turn-init : goal.loop-turn-init
loop-turn-init g c = record {
  going = Going-begun g.K.Keeper.keeper g.R.Source.source g.C.Clock.clock c.args.input.now c.args.clock.now c.args.follower.now c.new-frames.result c.new-frames.ensures.empty;
  size = rw c.new-frames.ensures.empty (omega arith);
  named = refl;
  room = refl;
}

pub returns-in-Ok-eq0-clause-follows : goal.returns-in-Ok-eq0-clause-follows
returns-in-Ok-eq0-clause-follows g c =
    ends_all g.K.Keeper.keeper g.R.Source.source g.C.Clock.clock c.args.input.now c.args.clock.now c.args.follower.now
    c.loop-turn.input c.read.new.self c.loop-turn.clock c.loop-turn._turn c.loop-turn.frames c.loop-turn.follower c.loop-turn.count c.loop-turn.invariant.going c.args.reads
    c.loop-turn.room c.read.new.room c.in-Ok-eq0.field-0 c.loop-turn-test.true c.loop-turn.invariant.room c.in-Ok-eq0.field-0-test c.in-Ok-eq0.ensures.told c.in-Ok-eq0.ensures.next

pub returns-in_err-count-in-Ok-clause-follows : goal.returns-in_err-count-in-Ok-clause-follows
returns-in_err-count-in-Ok-clause-follows g c =
    let keeper = g.K.Keeper.keeper in
    let source = g.R.Source.source in
    let clock = g.C.Clock.clock in
    let full : length c.read.new.room ≡ 4096 = omega (arith, c.read.auto.room, c.loop-turn.invariant.room) in
    let came = arrives keeper source clock c.args.input.now c.args.clock.now c.args.follower.now
    c.loop-turn.input c.read.new.self c.loop-turn.clock c.now-moment.new.self c.loop-turn.room c.read.new.room c.in-Ok.size c.now-moment.result
    c.loop-turn.invariant.room full c.in-Ok.ensures.told c.in-Ok.ensures.next c.in-Ok.size-test.1 c.now-moment.ensures.next in
    let p = err_from_is_err_and c.from_residual.result c.from_residual.ensures.1 in
    rw (p.1, p.2)
    (ends_hearing keeper source clock c.args.input.now c.args.clock.now c.args.follower.now
    c.loop-turn.input c.read.new.self c.loop-turn.clock c.now-moment.new.self c.loop-turn._turn c.loop-turn.frames (take c.in-Ok.size c.read.new.room) c.loop-turn.follower c.hear.new.follower
    c.loop-turn.count c.now-moment.result c.loop-turn.invariant.going came c.args.reads c.hear.new.frames c.in_err-count-in-Ok.field-0.0 c.loop-turn-test.true c.in_err-count-in-Ok.ensures.hears)

pub returns-in-Err-Failed-clause-follows : goal.returns-in-Err-Failed-clause-follows
returns-in-Err-Failed-clause-follows g c =
    ends_reading g.K.Keeper.keeper g.R.Source.source g.C.Clock.clock c.args.input.now c.args.clock.now c.args.follower.now
    c.loop-turn.input c.read.new.self c.loop-turn.clock c.loop-turn._turn c.loop-turn.frames c.loop-turn.follower c.loop-turn.count c.loop-turn.invariant.going c.args.reads
    c.loop-turn.room c.read.new.room c.in-Err-Failed.field-0 c.loop-turn-test.true c.loop-turn.invariant.room c.in-Err-Failed.field-0-is c.in-Err-Failed.ensures.told c.in-Err-Failed.ensures.next

pub returns-in-Err-OutOfMemory-clause-follows : goal.returns-in-Err-OutOfMemory-clause-follows
returns-in-Err-OutOfMemory-clause-follows g c =
    ends_wanting g.K.Keeper.keeper g.R.Source.source g.C.Clock.clock c.args.input.now c.args.clock.now c.args.follower.now
    c.loop-turn.input c.read.new.self c.loop-turn.clock c.loop-turn._turn c.loop-turn.frames c.loop-turn.follower c.loop-turn.count c.loop-turn.invariant.going c.args.reads
    c.loop-turn.room c.read.new.room c.in-Err-OutOfMemory.field-0 c.loop-turn-test.true c.loop-turn.invariant.room c.in-Err-OutOfMemory.field-0-is c.in-Err-OutOfMemory.ensures.told
    c.in-Err-OutOfMemory.ensures.next

pub loop-turn-preserved : goal.loop-turn-preserved
loop-turn-preserved g c =
    let keeper = g.K.Keeper.keeper in
    let source = g.R.Source.source in
    let clock = g.C.Clock.clock in
    let full : length c.read.new.room ≡ 4096 = omega (arith, c.read.auto.room, c.loop-turn.invariant.room) in
    let came = arrives keeper source clock c.args.input.now c.args.clock.now c.args.follower.now
    c.loop-turn.input c.read.new.self c.loop-turn.clock c.now-moment.new.self c.loop-turn.room c.read.new.room c.in-Ok.size c.now-moment.result
    c.loop-turn.invariant.room full c.in-Ok.ensures.told c.in-Ok.ensures.next c.in-Ok.size-test.1 c.now-moment.ensures.next in
    let piece = take c.in-Ok.size c.read.new.room in
    let taken : c.in_ok-count-in-Ok.field-0 + length c.hear.new.frames ≤ length c.loop-turn.frames + length piece = c.in_ok-count-in-Ok.ensures.size in
    let short : length piece ≤ 4096 = came.is_piece.1 in
    record {
      going = Going-more keeper source clock c.args.input.now c.args.clock.now c.args.follower.now
          c.loop-turn.input c.read.new.self c.loop-turn.clock c.now-moment.new.self c.loop-turn._turn c.loop-turn.frames piece c.loop-turn.follower c.hear.new.follower
          c.loop-turn.count c.now-moment.result c.loop-turn.invariant.going came c.hear.new.frames c.in_ok-count-in-Ok.field-0 c.in_ok-count-in-Ok.ensures.hears;
      size = omega arith;
      named = c.hear.ensures.named ∙ c.loop-turn.invariant.named;
      room = full;
    }

pub returns-clause-follows : goal.returns-clause-follows
returns-clause-follows g c =
    ends_cut_off g.K.Keeper.keeper g.R.Source.source g.C.Clock.clock c.args.input.now c.args.clock.now c.args.follower.now
    c.loop-turn.input c.loop-turn.clock c.loop-turn._turn c.loop-turn.frames c.loop-turn.follower c.loop-turn.count c.args.reads c.loop-turn.invariant.going
    (omega (arith, c.loop-turn-test.false, c.loop-turn.auto._turn-end))
