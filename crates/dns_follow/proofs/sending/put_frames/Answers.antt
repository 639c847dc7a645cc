use Rattle.std.proofs.Common.{◌≡◌, ◌∙◌, true, sym}
use Rattle.std.proofs.lemmas.Result.{err_from_is_err_and}
use Rattle.dns_follow.specs.Feeding.{is_short}
use Rattle.dns_follow.proofs.SentFrames.{short_more, sent_on, sent_not, sent_ended}
use Rattle.dns_follow.proofs.sending.put_frames.Goals as goal

pub returns-then-not-is_short : goal.returns-then-not-is_short
returns-then-not-is_short g c =
    let told = g.W.Sink.sink.told in
    let was = c.loop-frame in
    sent_ended c.args.frames.now was.frame-index c.frame-item.result c.loop-frame-test.true c.frame-item.is was.invariant.short
    (told c.args.out.now) (told was.out) (sym c.is_short.ensures ∙ c.if-not-is_short.true) was.invariant.written

pub returns-in_err-put_frame : goal.returns-in_err-put_frame
returns-in_err-put_frame g c =
    let told = g.W.Sink.sink.told in
    let was = c.loop-frame in
    let short : is_short c.frame-item.result ≡ true = sym c.is_short.ensures ∙ c.if-not-is_short.false in
    let p = err_from_is_err_and c.from_residual.result c.from_residual.ensures.1 in
    rw (p.1, p.2)
    (sent_not c.args.frames.now was.frame-index c.frame-item.result c.loop-frame-test.true c.frame-item.is was.invariant.short
    (told c.args.out.now) (told was.out) (told c.put_frame.new.out) short was.invariant.written c.in_err-put_frame.field-0.0 c.in_err-put_frame.ensures)

pub loop-frame-preserved : goal.loop-frame-preserved
loop-frame-preserved g c =
    let told = g.W.Sink.sink.told in
    let was = c.loop-frame in
    let short : is_short c.frame-item.result ≡ true = sym c.is_short.ensures ∙ c.if-not-is_short.false in
    record {
      written = sent_on c.args.frames.now was.frame-index c.frame-item.result c.loop-frame-test.true c.frame-item.is was.invariant.short
          (told c.args.out.now) (told was.out) (told c.put_frame.new.out) short was.invariant.written c.in_ok-put_frame.ensures;
      short = short_more c.args.frames.now was.frame-index c.frame-item.result c.loop-frame-test.true c.frame-item.is was.invariant.short short;
    }
