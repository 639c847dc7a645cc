use Rattle.std.proofs.Common.{◌∙◌, sym}
use Rattle.dns_follow.proofs.SentFrames.{long_here, short_more}
use Rattle.dns_follow.proofs.sending.too_long.Goals as goal

pub returns-then-not-is_short : goal.returns-then-not-is_short
returns-then-not-is_short c =
    sym (long_here c.args.frames.now c.loop-frame.frame-index c.frame-item.result c.loop-frame-test.true c.frame-item.is c.loop-frame.invariant (sym c.is_short.ensures ∙ c.if-not-is_short.true))

pub loop-frame-preserved : goal.loop-frame-preserved
loop-frame-preserved c =
    short_more c.args.frames.now c.loop-frame.frame-index c.frame-item.result c.loop-frame-test.true c.frame-item.is c.loop-frame.invariant (sym c.is_short.ensures ∙ c.if-not-is_short.false)
