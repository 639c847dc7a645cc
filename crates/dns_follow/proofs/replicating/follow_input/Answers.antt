use Rattle.std.proofs.Common.{◌≡◌}
use Rattle.dns_follow.specs.Status.{open_status}
use Rattle.dns_follow.proofs.Endings.{tells_unopened}
use Rattle.dns_follow.proofs.replicating.follow_input.Goals as goal

pub returns-in-Ok : goal.returns-in-Ok
returns-in-Ok g c = λ words asked. c.follow_all.ensures words c.args.origin c.args.keeper asked c.in-Ok.ensures.ok c.in-Ok.ensures.left

pub returns-in-Err : goal.returns-in-Err
returns-in-Err g c = λ words asked.
    let is : c.open_status.result ≡ open_status c.in-Err.field-0.kind =
    let a = c.in-Err.kind-is in
    let b = c.open_status.ensures in
    cc in
    tells_unopened g.K.Keeper.keeper g.R.Source.source g.C.Clock.clock g.W.Sink.sink words c.args.origin c.args.keeper c.in-Err.field-0.keeper c.args.input.now
    c.args.clock.now c.args.out.now c.refuse.new.out c.in-Err.field-0.kind c.open_status.result c.refuse.result asked c.in-Err.ensures.err c.in-Err.ensures.left_unopened
    is c.refuse.ensures.ends c.refuse.ensures.wanted
