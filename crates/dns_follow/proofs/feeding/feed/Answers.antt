use Rattle.std.proofs.Common.{List, sym, subst}
use Rattle.dns_edges.specs.Edges.{around}
use Rattle.dns_follow.specs.declared.frame.Frame.{Frame}
use Rattle.dns_follow.specs.Feeding.{ReadsFed}
use Rattle.dns_follow.proofs.SentFeeds.{fed_sent, fed_unsent}
use Rattle.dns_follow.proofs.feeding.feed.Goals as goal

pub returns-clause-ok : goal.returns-clause-ok
returns-clause-ok g c =
    let told = g.K.Keeper.keeper.told in
    let after = told c.fed_frames.new.keeper in
    let read = subst (λ (l : List Frame). ReadsFed c.args.from after l) (sym c.as_slice.ensures.value) c.in_ok-frames.ensures.ok in
    fed_sent (told c.args.keeper.now) after c.args.from (around g.W.Sink.sink.told c.args.out.now c.send.new.out) c.as_slice.result.now c.send.result read c.send.ensures.ok

pub returns-clause-err : goal.returns-clause-err
returns-clause-err g c =
    let told = g.K.Keeper.keeper.told in
    let after = told c.fed_frames.new.keeper in
    let read = subst (λ (l : List Frame). ReadsFed c.args.from after l) (sym c.as_slice.ensures.value) c.in_ok-frames.ensures.ok in
    fed_unsent (told c.args.keeper.now) after c.args.from (around g.W.Sink.sink.told c.args.out.now c.send.new.out) c.as_slice.result.now c.send.result read c.send.ensures.err
