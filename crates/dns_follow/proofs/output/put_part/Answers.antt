use Rattle.std.proofs.lemmas.Result.{err_from_is_err_and}
use Rattle.dns_words.proofs.TextsWritten.{Writes-stop, Writes-then, Whole-stop}
use Rattle.dns_follow.proofs.output.put_part.Goals as goal

pub returns-in_err-put_frames : goal.returns-in_err-put_frames
returns-in_err-put_frames g c =
    let p = err_from_is_err_and c.from_residual.result c.from_residual.ensures.1 in
    rw (p.1, p.2) (Whole-stop _ _ _ (Writes-stop _ _ _ _ c.in_err-put_frames.ensures))

pub returns : goal.returns
returns g c = record {
  written = Writes-then _ _ _ _ _ _ c.in_ok-put_frames.ensures c.put_whole.ensures.written.written;
  flushed = c.put_whole.ensures.written.flushed;
}
