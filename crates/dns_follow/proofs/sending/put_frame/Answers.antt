use Rattle.std.proofs.lemmas.Result.{err_from_is_err_and}
use Rattle.dns_words.proofs.TextsWritten.{Writes-nothing}
use Rattle.dns_follow.specs.Feed.{framed}
use Rattle.dns_follow.proofs.SentFrames.{all_written}
use Rattle.dns_follow.proofs.sending.put_frame.Goals as goal

pub returns-in_err-append : goal.returns-in_err-append
returns-in_err-append g c = let p = err_from_is_err_and c.from_residual.result c.from_residual.ensures.1 in rw (p.1, p.2) (Writes-nothing _ _)

pub returns : goal.returns
returns g c =
    let told = g.W.Sink.sink.told in
    all_written (told c.args.out.now) (told c.write_all.new.sink) c.as_slice.result.now c.append.new.out.items c.clear.new.self.items (framed c.args.frame.now) c.write_all.result
    c.as_slice.ensures.value c.in_ok-append.ensures.ok c.clear.ensures.items c.write_all.ensures.ok c.write_all.ensures.err c.write_all.ensures.cause
