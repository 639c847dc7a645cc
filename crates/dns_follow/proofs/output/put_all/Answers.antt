use Rattle.std.proofs.lemmas.Result.{err_from_is_err_and}
use Rattle.dns_words.proofs.TextsWritten.{Whole-stop, Whole-flush}
use Rattle.dns_follow.proofs.output.put_all.Goals as goal

pub returns-in_err-put_frames : goal.returns-in_err-put_frames
returns-in_err-put_frames g c =
    let p = err_from_is_err_and c.from_residual.result c.from_residual.ensures.1 in
    rw (p.1, p.2) (Whole-stop _ _ _ c.in_err-put_frames.ensures)

pub returns : goal.returns
returns g c = Whole-flush _ _ _ _ _ c.in_ok-put_frames.ensures c.flush.ensures.told.kept c.flush.ensures.told.all c.flush.ensures.told.cause
