use Rattle.std.proofs.Common.{◌∙◌, ap}
use Rattle.dns_follow.specs.Lines.{zone_serial}
use Rattle.dns_follow.proofs.Endings.{tells_followed, tells_stopped}
use Rattle.dns_follow.proofs.replicating.follow_all.Goals as goal

pub returns-in-Ok : goal.returns-in-Ok
returns-in-Ok g c = λ words origin journal asked opened left.
    tells_followed g.K.Keeper.keeper g.R.Source.source g.C.Clock.clock g.W.Sink.sink words origin journal c.into_keeper.result c.args.input.now c.follow.new.input
    c.args.clock.now c.follow.new.clock c.args.out.now c.put_length-outcome.new.out c.args.follower c.follow.new.follower asked opened left c.follow.ensures.named c.into_keeper.ensures
    _ c.length.result c.zone_serial-serial.result c.put_length-outcome.result c.after_writing.result c.in-Ok.ensures.follows c.zone.ensures.stored
    c.length.ensures (c.zone_serial-serial.ensures ∙ ap zone_serial c.zone.ensures.is) c.put_length-outcome.ensures c.after_writing.ensures

pub returns-in-Err : goal.returns-in-Err
returns-in-Err g c = λ words origin journal asked opened left.
    tells_stopped g.K.Keeper.keeper g.R.Source.source g.C.Clock.clock g.W.Sink.sink words origin journal c.into_keeper-in-Err.result c.args.input.now c.follow.new.input
    c.args.clock.now c.follow.new.clock c.args.out.now c.refuse.new.out c.args.follower c.follow.new.follower asked opened left c.follow.ensures.named c.into_keeper-in-Err.ensures
    c.in-Err.fault c.follow_status.result c.refuse.result c.in-Err.ensures.follows c.follow_status.ensures c.refuse.ensures.ends c.refuse.ensures.wanted
