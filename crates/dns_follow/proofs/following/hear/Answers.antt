use Rattle.std.proofs.Common.{◌<◌, ◌++◌, ℕ, List, length, Option, refl, subst, arith}
use Rattle.std.specs.Prelude.{IfSome}
use Rattle.std.proofs.lemmas.Result.{err_from_is_err_and}
use Rattle.dns_frames.specs.Frames.{Gives}
use Rattle.dns_follow.proofs.Hearing.{Taking-begun, Taking-more, hears_refused, hears_part}
use Rattle.dns_follow.proofs.following.hear.Goals as goal

pub returns-in-Err-clause-hears : goal.returns-in-Err-clause-hears
returns-in-Err-clause-hears g c =
    let bytes = c.args.frames.now ++ c.args.piece.now in
    hears_part g.K.Keeper.keeper c.args.moment c.args.follower.now bytes bytes c.feed.new.self c.args.follower.now 0
    (Taking-begun g.K.Keeper.keeper c.args.moment c.args.follower.now bytes bytes refl)

pub returns-in_err-take-in-Ok-Some-clause-hears : goal.returns-in_err-take-in-Ok-Some-clause-hears
returns-in_err-take-in-Ok-Some-clause-hears g c =
    let bytes = c.args.frames.now ++ c.args.piece.now in
    let p = err_from_is_err_and c.from_residual.result c.from_residual.ensures.1 in
    let gives = subst (λ (message : Option (List ℕ)). Gives c.loop-payload.frames message c.next.new.self) c.in-Ok-Some.field-0-is c.in-Ok-Some.ensures.ok in
    rw (p.1, p.2)
    (hears_refused g.K.Keeper.keeper c.args.moment c.args.follower.now bytes c.loop-payload.frames c.next.new.self c.in-Ok-Some.payload c.as_slice.result.now
    c.loop-payload.follower c.take.new.self c.loop-payload.count c.in_err-take-in-Ok-Some.field-0.0
    c.loop-payload.invariant.taking gives c.as_slice.ensures c.in_err-take-in-Ok-Some.ensures.takes c.in_err-take-in-Ok-Some.ensures.left c.take.ensures.named)

pub loop-payload-preserved : goal.loop-payload-preserved
loop-payload-preserved g c =
    let bytes = c.args.frames.now ++ c.args.piece.now in
    let gives = subst (λ (message : Option (List ℕ)). Gives c.loop-payload.frames message c.next.new.self) c.in-Ok-Some.field-0-is c.in-Ok-Some.ensures.ok in
    let shorter : length c.next.new.self < length c.loop-payload.frames =
    subst (λ (message : Option (List ℕ)). IfSome message (λ bytes. length c.next.new.self < length c.loop-payload.frames)) c.in-Ok-Some.field-0-is c.in-Ok-Some.ensures.shorter in
    record {
      taking = Taking-more g.K.Keeper.keeper c.args.moment c.args.follower.now bytes c.loop-payload.frames c.next.new.self c.in-Ok-Some.payload c.as_slice.result.now
          c.loop-payload.follower c.take.new.self c.loop-payload.count c.in_ok-take-in-Ok-Some.field-0
          c.loop-payload.invariant.taking gives c.as_slice.ensures c.in_ok-take-in-Ok-Some.ensures.takes c.in_ok-take-in-Ok-Some.ensures.left c.take.ensures.named;
      size = omega arith;
    }
